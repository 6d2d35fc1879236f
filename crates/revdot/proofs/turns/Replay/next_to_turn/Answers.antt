use Rattle.std.proofs.Common.{arith, ◌<◌, ◌^◌}
use Rattle.revdot.specs.Replays.{moment_of}
use Rattle.revdot.proofs.Turning.{next_is_few}
use Rattle.revdot.proofs.turns.Replay.next_to_turn.Goals as goal

pub returns-clause-few : goal.returns-clause-few
returns-clause-few c =
    let small : c.nodes.result < 2 ^ 32 = grind arith in
    next_is_few c.nodes.result c.dest.result (moment_of c.args.self.now) c.next_to_turn.result small
    (rw (c.deref.ensures.value, c.deref-2.ensures.value) at c.next_to_turn.ensures.next)
