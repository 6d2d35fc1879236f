use Rattle.std.proofs.Common.{ap, arith, length, subst, sym, [], ◌++◌, ◌+◌, ◌∙◌, ◌∷◌, ◌≡◌}
use Rattle.std.proofs.lemmas.List.{length_push}
use Rattle.fr_graph.proofs.TurnedNodes.{AreListed, all_listed, none_listed, one_listed}
use Rattle.fr_graph.proofs.Lists.{once_more}
use Rattle.fr_graph.proofs.turns.list_turned.Goals as goal
use Rattle.fr_graph.proofs.turns.list_turned.Goals.{then-counts-x-gt0, else-counts-x-gt0}

pub loop-x-preserved : goal.loop-x-preserved
loop-x-preserved c =
    let counts = c.args.counts.now in
    let x = c.loop-x.x in
    let before = c.loop-x.invariant in
    elim c.if-counts-x-gt0.branch [
      | then-counts-x-gt0 w ↦
          let items : w.push_reserved.new.self.items ≡ c.loop-x.nodes.items ++ x ∷ [] = w.push_reserved.ensures.items in
          rw w.nodes-is (record {
            same_room = w.push_reserved.ensures.capacity ∙ before.same_room;
            few = omega (arith, ap length items, length_push c.loop-x.nodes.items x, before.few);
            once =
                rw items (once_more c.loop-x.nodes.items x before.once (λ h. omega (arith, ((before.listed x).0 h).0)));
            listed =
                subst (AreListed counts (x
                + 1)) (sym items) (one_listed counts x c.loop-x.nodes.items w.if-counts-x-gt0.true before.listed);
          })
      | else-counts-x-gt0 w ↦ rw w.nodes-is (record {
        same_room = before.same_room;
        few = omega (arith, before.few);
        once = before.once;
        listed = none_listed counts x c.loop-x.nodes.items (omega (arith, w.if-counts-x-gt0.false)) before.listed;
      })
    ]

pub returns-clause-turned : goal.returns-clause-turned
returns-clause-turned c = record {
  once = c.loop-x.invariant.once;
  each =
      all_listed c.args.counts.now c.loop-x.x c.loop-x.nodes.items (omega (arith, c.loop-x-test.false))
      c.loop-x.invariant.listed;
}
