use Rattle.std.proofs.Common.{rules, ◌+◌, ◌<◌, ◌^◌, ◌∙◌, ap, arith, subst}
use Rattle.fr_round.specs.Knowledge.{Knowledge, LearnsReply}
use Rattle.fr_round.specs.WorkerInside.{knowledge_of}
use Rattle.fr_round.proofs.SoundCalls.{learns_after, turned_fits, with_caller}
use Rattle.fr_round.proofs.worker.Worker.turn.Goals as goal

pub overflow_add-self : goal.overflow_add-self
overflow_add-self c =
    let setup = ap (λ (k : Knowledge). k.setup) c.self.view_is ∙ c.requires.own.setup in
    let small : c.args.words.now.round_setup.net.nodes < 2 ^ 32 = search rules in
    let fits = turned_fits c.args.words.now c.self.inside c.turn_at-reply.new.self c.args.x c.turn_at-reply.result
    c.self.invariant setup c.turn_at-reply.ensures.made c.network_law.ensures.is_net small in
    omega (arith, fits, c.turns_of_reply.ensures)

pub returns-clause-learns : goal.returns-clause-learns
returns-clause-learns c =
    let w = c.self.inside in
    let r = c.turn_at-reply in
    let setup = ap (λ (k : Knowledge). k.setup) c.self.view_is ∙ c.requires.own.setup in
    let turned = w.turned + c.turns_of_reply.result in
    subst (λ (k : Knowledge). LearnsReply k c.args.x r.result (knowledge_of (with_caller w r.new.self turned)))
    c.self.view_is
    (learns_after c.args.words.now w r.new.self c.args.x r.result c.self.invariant setup r.ensures.made turned)
