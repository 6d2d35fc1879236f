use Rattle.std.proofs.Common.{arith, inr, string_bytes}
use Rattle.fr_core.specs.Legal.{NoneCanTurn}
use Rattle.revdot.specs.Replays.{moment_of}
use Rattle.revdot.specs.Strips.{IsNext, most_turns}
use Rattle.revdot.proofs.Turning.{all_turned, at_start, one_turn_more}
use Rattle.revdot.proofs.strips.push_turns.Goals as goal

pub loop-turn-init : goal.loop-turn-init
loop-turn-init c =
    at_start c.args.direction c.args.router.now c.in_ok-replay.replay (string_bytes c.args.text.now)
    c.in_ok-replay.ensures.replay c.in_ok-replay.ensures.first

pub loop-turn-preserved : goal.loop-turn-preserved
loop-turn-preserved c =
    let s = c.args.router.now in
    let before = c.loop-turn.replay in
    let next : IsNext s.nodes s.dest (moment_of before) c.in-Some.node = rw c.in-Some.is at c.in_ok-node.ensures.next in
    one_turn_more s c.loop-turn.turn before c.turn.new.self c.in-Some.node next c.turn.ensures.turned
    c.turn.ensures.replay
    c.args.direction (string_bytes c.args.text.now) (string_bytes c.loop-turn.text) (string_bytes c.push_turn.new.text)
    c.loop-turn.invariant c.in_ok-push_turn.ensures

pub returns-in_default : goal.returns-in_default
returns-in_default c =
    let s = c.args.router.now in
    let now = c.loop-turn in
    let none : NoneCanTurn s.nodes s.dest (moment_of now.replay) = rw c.in_default.is at c.in_ok-node.ensures.next in (
      now.invariant.turns,
      all_turned most_turns s now.turn now.invariant.turns now.replay now.invariant.have
          (omega (arith, c.loop-turn-test.true)) (inr none),
      now.invariant.text,
    )
