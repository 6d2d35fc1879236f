use Rattle.std.proofs.Common.{ap, arith, length, ◌∙◌}
use Rattle.std.proofs.lemmas.List.{with_items_is}
use Rattle.fr_graph.proofs.StackedNodes.{order_falls}
use Rattle.fr_graph.specs.Heights.{Levels}
use Rattle.fr_graph.proofs.heights.Heights.set_from_order.Goals as goal

pub set_rising_heights-requires-clause-nodes : goal.set_rising_heights-requires-clause-nodes
set_rising_heights-requires-clause-nodes c k d lt = omega (
  arith,
  c.requires.1.below k d lt,
  ap length c.deref_mut.ensures.value,
  ap (λ (levels : Levels). length levels.heights) c.self.view_is,
)

pub set_rising_heights-requires-clause-room : goal.set_rising_heights-requires-clause-room
set_rising_heights-requires-clause-room c =
    omega (
      arith,
      c.requires.1.few,
      c.self.invariant.few,
      ap (λ (levels : Levels). length levels.heights) c.self.view_is,
    )

pub returns-clause-fit : goal.returns-clause-fit
returns-clause-fit c links below order known =
    rw (with_items_is c.self.inside.of c.set_rising_heights.new.of (c.set_rising_heights.ensures.one_each
    ∙ c.deref_mut.ensures.len))
    (order_falls links (length c.args.self.now.heights) c.args.order.now 4294967296 c.deref_mut.result.now
    c.set_rising_heights.new.of
    below order (omega arith) c.set_rising_heights.ensures.stacked)
