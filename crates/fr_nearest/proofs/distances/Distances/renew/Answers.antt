use Rattle.std.proofs.Common.{List, ap, arith, length, subst, sym, ℕ, ◌∙◌, ◌≡◌}
use Rattle.std.proofs.lemmas.List.{with_items_is}
use Rattle.std.specs.Vec.{with_items}
use Rattle.fr_nearest.specs.Changes.{IsForgotten}
use Rattle.fr_nearest.specs.Distances.{Measured}
use Rattle.fr_nearest.specs.LinkChanges.{IsOutOfDate}
use Rattle.fr_nearest.specs.Local.{IsSmall}
use Rattle.fr_nearest.specs.Update.{KeepsOthers}
use Rattle.fr_nearest.proofs.Renewing.{renewed}
use Rattle.fr_nearest.proofs.distances.Distances.renew.Goals as goal
use Rattle.fr_nearest.proofs.distances.Distances.renew.Goals.{After-reset, After-deref-then-try_update}

old : (c : After-reset) → IsOutOfDate c.args.net.now c.args.touched.now c.self.inside.dest c.self.inside.of.items
old c =
    subst (λ (m : Measured). IsOutOfDate c.args.net.now c.args.touched.now m.dest m.table) (sym c.self.view_is)
    c.requires.old

one_each : (c : After-reset) → length c.self.inside.of.items ≡ c.args.net.now.nodes
one_each c = (old c).were.one_each

was : (c : After-reset) → c.self.inside.of.items ≡ c.args.self.now.table
was c = ap (λ (m : Measured). m.table) c.self.view_is

forgotten : (c : After-reset) → IsForgotten c.self.inside.of.items c.reset.new.self
forgotten c = rw c.deref.ensures.value at c.reset.ensures

small : (c : After-reset) → IsSmall c.args.net.now.nodes c.self.inside.of.items
small c = subst (λ (n : ℕ). IsSmall n c.self.inside.of.items) (one_each c) c.self.invariant.small

pub try_update-requires-clause-old : goal.try_update-requires-clause-old
try_update-requires-clause-old c =
    let at = (goal.at.try_update-requires-clause-old c).After-reset in
    subst (λ (xs : List ℕ). IsOutOfDate c.args.net.now c.args.touched.now c.self.inside.dest xs)
    (sym c.deref_mut.ensures.value) (old at)

-- the table after an update
table_is : (c : After-deref-then-try_update)
    → (with_items c.self.inside.of c.try_update.new.distances).items ≡ c.try_update.new.distances
table_is c = with_items_is c.self.inside.of c.try_update.new.distances
    (omega (arith, c.try_update.ensures.one_each, ap length c.deref_mut.ensures.value, c.self.inside.of.ok.0))

read_is : (c : After-deref-then-try_update) → c.deref-then-try_update.result.now ≡ c.try_update.new.distances
read_is c = c.deref-then-try_update.ensures.value ∙ table_is c

pub note_changed_among-requires-clause-noted : goal.note_changed_among-requires-clause-noted
note_changed_among-requires-clause-noted c =
    let at = (goal.at.note_changed_among-requires-clause-noted c).After-reset in
    let then = (goal.at.note_changed_among-requires-clause-noted c).After-deref-then-try_update in
    let was = c.self.inside.of.items in
    let now = c.try_update.new.distances in
    let others : KeepsOthers was now c.try_update.new.list.items =
    subst (λ (xs : List ℕ). KeepsOthers xs now c.try_update.new.list.items) c.deref_mut.ensures.value
    (c.try_update.ensures.updated c.if-try_update.true).others in
    let read : KeepsOthers was c.deref-then-try_update.result.now c.try_update.new.list.items =
    subst (λ (xs : List ℕ). KeepsOthers was xs c.try_update.new.list.items) (sym (read_is then)) others in (
      was,
      forgotten at,
      omega (arith, ap length (read_is then), c.try_update.ensures.one_each, ap length c.deref_mut.ensures.value),
      subst (λ (xs : List ℕ). KeepsOthers was c.deref-then-try_update.result.now xs)
          (sym c.deref-then-try_update-2.ensures.value) read,
    )

pub returns-then-try_update : goal.returns-then-try_update
returns-then-try_update c =
    let at = (goal.at.returns-then-try_update c).After-reset in
    renewed c.args.net.now c.args.dest c.args.self.now c.self.inside.of (was at)
    (c.try_update.ensures.one_each
    ∙ ap length c.deref_mut.ensures.value) (c.try_update.ensures.updated c.if-try_update.true).distances
    c.deref-then-try_update.ensures.value c.note_changed_among.ensures.noted
    (rw c.note_changed_among.ensures.before (forgotten at).before)

pub returns-else-try_update : goal.returns-else-try_update
returns-else-try_update c =
    let at = (goal.at.returns-else-try_update c).After-reset in
    let are = c.measure_all.ensures.distances in
    let updated = with_items c.self.inside.of c.try_update.new.distances in
    renewed c.args.net.now c.args.dest c.args.self.now updated (was at)
    (omega (
      arith,
      are.one_each,
      c.try_update.ensures.one_each,
      ap length c.deref_mut.ensures.value,
      one_each at,
      updated.ok.0,
      c.self.inside.of.ok.0,
    ))
    are c.deref-else-try_update.ensures.value c.note_all_changed.ensures.noted
    (rw c.note_all_changed.ensures.before (forgotten at).before)
