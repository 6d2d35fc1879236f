use Rattle.std.proofs.Common.{◌∙◌, ap, subst}
use Rattle.fr_round.specs.Knowledge.{Knowledge, LearnsReply}
use Rattle.fr_round.specs.WorkerInside.{knowledge_of}
use Rattle.fr_round.proofs.SoundCalls.{learns_after, with_caller}
use Rattle.fr_round.proofs.worker.Worker.look.Goals as goal

pub returns-clause-learns : goal.returns-clause-learns
returns-clause-learns c =
    let w = c.self.inside in
    let r = c.look_at in
    let setup = ap (λ (k : Knowledge). k.setup) c.self.view_is ∙ c.requires.own.setup in
    subst (λ (k : Knowledge). LearnsReply k c.args.x r.result (knowledge_of (with_caller w r.new.self w.turned)))
    c.self.view_is
    (learns_after c.args.words.now w r.new.self c.args.x r.result c.self.invariant setup r.ensures.made w.turned)
