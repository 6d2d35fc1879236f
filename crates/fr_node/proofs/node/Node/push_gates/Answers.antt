use Rattle.std.proofs.Common.{arith, sym, ◌∙◌}
use Rattle.fr_node.specs.declared.link.Link.{Link}
use Rattle.fr_node.specs.Events.{is_gate}
use Rattle.fr_node.proofs.Ways.{length_pushed, listed_more, listed_same, pushed}
use Rattle.fr_node.proofs.node.Node.push_gates.Goals as goal
use Rattle.fr_node.proofs.node.Node.push_gates.Goals.{else-is_open, then-is_open}

pub loop-link-preserved : goal.loop-link-preserved
loop-link-preserved c =
    let before = c.loop-link.invariant in
    let n = c.args.self.now in
    let links = c.args.links.now in
    let neighbour = λ (l : Link). l.neighbour in
    elim c.if-is_open.branch [
      | then-is_open w ↦ let items = w.push_reserved.ensures.items in rw w.gates-is (record {
        room = w.push_reserved.ensures.capacity ∙ before.room;
        few = omega (arith, length_pushed _ _ _ items, before.few);
        listed = pushed _ _ _ _ items before.listed
            ∙ sym (listed_more (is_gate n) neighbour links _ _ c.loop-link-test.true (sym c.is_open.ensures
            ∙ w.if-is_open.true));
      })
      | else-is_open w ↦ rw w.gates-is (record {
        room = before.room;
        few = omega (arith, before.few);
        listed = before.listed ∙ sym (listed_same (is_gate n) neighbour links _ _ c.loop-link-test.true
            (sym c.is_open.ensures ∙ w.if-is_open.false));
      })
    ]
