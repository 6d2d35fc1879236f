use Rattle.revdot.specs.Replays.{moment_of}
use Rattle.revdot.specs.Strips.{IsNext}
use Rattle.revdot.proofs.Turning.{none_turned, one_more_turned}
use Rattle.revdot.proofs.rounds.turns_of.Goals as goal

pub loop-turn-init : goal.loop-turn-init
loop-turn-init c =
    rw c.new-turns.ensures.items (none_turned c.args.router.now c.args.replay c.requires.replay c.requires.first)

pub loop-turn-preserved : goal.loop-turn-preserved
loop-turn-preserved c =
    let s = c.args.router.now in
    let before = c.loop-turn.replay in
    let next : IsNext s.nodes s.dest (moment_of before) c.in-Some.x = rw c.in-Some.is at c.in_ok-x.ensures.next in
    rw c.in_ok-push.ensures.items (one_more_turned s c.loop-turn.turn before c.turn.new.self c.in-Some.x next
    c.turn.ensures.turned c.turn.ensures.replay c.loop-turn.turns.items c.loop-turn.invariant)
