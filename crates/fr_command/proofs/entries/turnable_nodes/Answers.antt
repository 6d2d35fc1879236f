use Rattle.std.proofs.Common.{◌≡◌, ◌∙◌, ℕ, ◌++◌, ◌∷◌, [], true, false, List, ap, sym, arith}
use Rattle.fr_graph.specs.Links.{IsNet}
use Rattle.fr_command.specs.Plays.{is_linked}
use Rattle.fr_command.proofs.PlayTargets.{linked_by_row, alone_by_row, wanted_node, alone_node, destination_node}
use Rattle.fr_command.proofs.entries.turnable_nodes.Goals as goal
use Rattle.fr_command.proofs.entries.turnable_nodes.Goals.{then-x-dest+then-degree-gt0+in_ok-push, else-x-dest}
use Rattle.fr_command.proofs.entries.turnable_nodes.Goals.{else-x-dest-via-then-x-dest+else-degree-gt0}
use Rattle.fr_command.proofs.entries.turnable_nodes.Goals.{else-x-dest-via-else-x-dest}

pub loop-x-preserved : goal.loop-x-preserved
loop-x-preserved c =
    let n = c.args.net.now.nodes in
    let d = c.args.dest in
    let links = c.args.net.now.links in
    let x = c.loop-x.x in
    let net : IsNet n links = c.nodes-x-end.ensures.faultless.is_net in
    elim c.if-x-dest.branch [
      | then-x-dest+then-degree-gt0+in_ok-push w ↦
          let linked : is_linked links x
          ≡ true = linked_by_row n links x (omega (arith, w.degree.ensures, w.if-degree-gt0.true)) in
          rw w.nodes-is (w.in_ok-push.ensures.items
          ∙ (ap (λ (xs : List ℕ). xs ++ x ∷ []) c.loop-x.invariant ∙ sym
          (wanted_node d links x w.if-x-dest.true linked)))
      | else-x-dest w ↦
          elim w.else-x-dest.branch [
            | else-x-dest-via-then-x-dest+else-degree-gt0 v ↦
                let alone : is_linked links x
                ≡ false = alone_by_row n links x net (omega (arith, v.degree.ensures, v.if-degree-gt0.false)) in
                rw w.nodes-is (c.loop-x.invariant ∙ sym (alone_node d links x alone))
            | else-x-dest-via-else-x-dest v ↦ rw w.nodes-is
                (c.loop-x.invariant ∙ sym (destination_node d links x v.if-x-dest.false))
          ]
    ]
