use Rattle.std.proofs.Common.{subst}
use Rattle.fr_round.specs.Knowledge.{IsKnowledge}
use Rattle.fr_round.proofs.SoundCalls.{knowledge_holds}
use Rattle.fr_round.proofs.worker.Worker.seen.Goals as goal

pub returns-clause-known : goal.returns-clause-known
returns-clause-known c = subst IsKnowledge c.self.view_is (knowledge_holds c.self.inside c.self.invariant)
