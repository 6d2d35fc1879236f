use Rattle.std.proofs.Common.{List, [], arith, get_or, inl, inr, length, subst, sym, take, ℕ, ◌++◌, ◌+◌, ◌<◌, ◌∙◌, ◌∷◌, ◌≡◌}
use Rattle.std.proofs.lemmas.Bool.{cases_lt}
use Rattle.std.proofs.lemmas.List.{get_or_default, take_all, take_more}
use Rattle.std.proofs.lemmas.Option.{slice_get-get_or, slice_get_past}
use Rattle.fr_tables.specs.Pushes.{IsPushOrder, IsPushed}
use Rattle.fr_tables.specs.Tables.{IsLoopFree}
use Rattle.fr_tables.specs.declared.hop.Hop.{Hop}
use Rattle.fr_tables.specs.declared.hop.Hop.TheVariants.{Here}
use Rattle.test_callers.proofs.tables.push_all.Goals as goal

-- a node of an order is in the tables
node_inside : (old new : List Hop) (order : List ℕ) (i : ℕ) → length old ≡ length new → IsPushOrder old new order → i < length order
    → get_or order i 0 < length new
node_inside old new order i same is low =
    let x : ℕ = get_or order i 0 in
    elim (cases_lt x (length new)) [
      | inl inside ↦ inside
      | inr out ↦ absurd ((is.these x).0 (i, low, get_or_default order i x 0 low)
          (slice_get_past old x (omega (arith, out, same)) ∙ sym (slice_get_past new x out)))
    ]

pub loop-x-init : goal.loop-x-init
loop-x-init c = c.push_law.ensures.start c.args.table.now c.args.new.now

pub bounds-new-x : goal.bounds-new-x
bounds-new-x c =
    let nodes = c.deref-x-items.result.now in
    let order = c.in_ok-order.ensures.order in
    let is : IsPushOrder c.args.table.now c.args.new.now nodes =
    subst (IsPushOrder c.args.table.now c.args.new.now) (sym c.deref-x-items.ensures.value) order.is_order in
    node_inside c.args.table.now c.args.new.now nodes c.loop-x.x-index order.tables.one_length.same is (omega arith)

pub bounds-table-x : goal.bounds-table-x
bounds-table-x c =
    let nodes = c.deref-x-items.result.now in
    let order = c.in_ok-order.ensures.order in
    let is : IsPushOrder c.args.table.now c.args.new.now nodes =
    subst (IsPushOrder c.args.table.now c.args.new.now) (sym c.deref-x-items.ensures.value) order.is_order in
    omega (
      arith,
      c.loop-x.invariant.one_length,
      order.tables.one_length.same,
      node_inside c.args.table.now c.args.new.now nodes c.loop-x.x-index order.tables.one_length.same is (omega arith),
    )

pub loop-x-preserved : goal.loop-x-preserved
loop-x-preserved c =
    let old = c.args.table.now in
    let new = c.args.new.now in
    let nodes = c.deref-x-items.result.now in
    let i : ℕ = c.loop-x.x-index in
    let x : ℕ = get_or nodes i 0 in
    let order = c.in_ok-order.ensures.order in
    let is : IsPushOrder old new nodes = subst (IsPushOrder old new) (sym c.deref-x-items.ensures.value) order.is_order in
    let inside : i < length nodes = omega arith in
    let low : x < length new = node_inside old new nodes i order.tables.one_length.same is inside in
    let more : take (i + 1) nodes ≡ take i nodes ++ x ∷ [] = take_more nodes i 0 inside in
    rw more (c.push_law.ensures.step old new (take i nodes) c.loop-x.table x (get_or new x Here) order.tables.one_length.same
    (slice_get-get_or new x Here low) c.loop-x.invariant)

pub returns : goal.returns
returns c =
    let nodes = c.deref-x-items.result.now in
    let order = c.in_ok-order.ensures.order in
    let is : IsPushOrder c.args.table.now c.args.new.now nodes =
    subst (IsPushOrder c.args.table.now c.args.new.now) (sym c.deref-x-items.ensures.value) order.is_order in
    let all : take c.loop-x.x-index nodes ≡ nodes = take_all c.loop-x.x-index nodes (omega arith) in
    let same : c.loop-x.table ≡ c.args.new.now =
    c.push_order_law.ensures.whole c.args.table.now c.args.new.now nodes c.loop-x.table order.tables.one_length.same is
    (subst (λ (done : List ℕ). IsPushed c.args.table.now c.args.new.now done c.loop-x.table) all c.loop-x.invariant) in
    record { pushed = same; loop_free = subst IsLoopFree (sym same) order.loop_free; unchanged = tt }
