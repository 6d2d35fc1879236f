use Rattle.std.proofs.Common.{◌∙◌, sym}
use Rattle.fr_command.proofs.PlayTargets.{no_turns, some_nodes, one_more_turn}
use Rattle.fr_command.proofs.entries.cyclic_targets.Goals as goal

pub returns-then-is_empty : goal.returns-then-is_empty
returns-then-is_empty c = c.new-turns.ensures.items ∙ sym (no_turns c.args.most c.args.nodes.now c.if-is_empty.ensures)

pub loop-place-preserved : goal.loop-place-preserved
loop-place-preserved c =
    c.in_ok-push.ensures.items
    ∙ one_more_turn c.args.most c.args.nodes.now c.loop-place.place c.loop-place.turns.items c.loop-place-test.true
    (some_nodes c.args.nodes.now c.if-is_empty.ensures) c.loop-place.invariant
