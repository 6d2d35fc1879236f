-- The pushes of a push order, one after the other.
use Rattle.std.proofs.Common.{Contains, List, [], ap, append_assoc, arith, drop, get_or, inl, inr, length, set, subst}
use Rattle.std.proofs.Common.{sym, take, ℕ, ⊎_elim, ◌++◌, ◌+◌, ◌<◌, ◌≤◌, ◌∙◌, ◌∷◌, ◌≡◌, append-nil}
use Rattle.std.proofs.lemmas.Bool.{cases_lt}
use Rattle.std.proofs.lemmas.List.{get_or_default, map-append, take-append-drop, take_all, take_more}
use Rattle.std.proofs.lemmas.List.Elements.{Contains-append_left}
use Rattle.std.proofs.lemmas.Option.{slice_get-get_or, slice_get_past}
use Rattle.fr_tables.proofs.Members.{Contains-head, Contains-tail, cases_member}
use Rattle.fr_tables.proofs.Pushing.{keeps_routes}
use Rattle.fr_tables.proofs.Orders.{beginning_closed, beginning_routed_first, ends_as_new, push_is_one_more}
use Rattle.fr_tables.proofs.Orders.{starts_as_old}
use Rattle.fr_tables.specs.Laws.{NeverLoops}
use Rattle.fr_tables.specs.Pushes.{AreRoutedFirst, IsClosedDownstream, IsPushOrder, IsPushed}
use Rattle.fr_tables.specs.Tables.{IsInRange}
use Rattle.fr_tables.specs.declared.hop.Hop.{Hop}
use Rattle.fr_tables.specs.declared.hop.Hop.TheVariants.{Here}
use Rattle.fr_shared.specs.declared.view.Push.{Push}
use Rattle.fr_shared.specs.Histories.{IsHistory, blank, push, table_after, table_of}
use Rattle.fr_shared.specs.HopLaws.{RoutesAreKept}
use Rattle.fr_shared.specs.HopTables.{IsTable, hop_codec, last_hops, pushes_of}
use Rattle.fr_shared.specs.Knowledge.{Knowledge}
use Rattle.fr_shared.proofs.Histories.{after_append, last_is_table}

pub take_within : (k : ℕ) (nodes : List ℕ) (x : ℕ) → Contains (take k nodes) x → Contains nodes x
take_within k nodes x found =
    subst (λ (l : List ℕ). Contains l x) (take-append-drop k nodes)
    (Contains-append_left (take k nodes) (drop k nodes) x found)

-- a node of an order is in the tables
node_inside : (old new : List Hop) (order : List ℕ) (x : ℕ) → length old ≡ length new → IsPushOrder old new order
    → Contains order x → x < length new
node_inside old new order x same is found = elim (cases_lt x (length new)) [
  | inl inside ↦ inside
  | inr out ↦ absurd ((is.these x).0 found (slice_get_past old x (omega (arith, out, same))
      ∙ sym (slice_get_past new x out)))
]

pushes_more : (old new : List Hop) (done nodes : List ℕ) (table : List Hop) → length old ≡ length new
    → ((x : ℕ) → Contains nodes x → x < length new) → IsPushed old new done table
    → IsPushed old new (done ++ nodes) (table_after table (pushes_of new nodes))
pushes_more old new done [] table same inside pushed = rw append-nil pushed
pushes_more old new done (x ∷ xs) table same inside pushed =
    let hop : Hop = get_or new x Here in
    let whole = append_assoc done (x ∷ []) xs in
    subst (λ (nodes : List ℕ). IsPushed old new nodes (table_after (set table x hop) (pushes_of new xs))) whole
    (pushes_more old new (done ++ x ∷ []) xs (set table x hop) same (λ y found. inside y (Contains-tail y x xs found))
    (push_is_one_more old new done table x hop same (slice_get-get_or new x Here (inside x (Contains-head x xs)))
    pushed))

-- after a number of pushes of an order, its first nodes are pushed, and they are closed downstream
pub first_pushed : (old new : List Hop) (order : List ℕ) (k : ℕ) → length old ≡ length new → IsPushOrder old new order
    → IsPushed old new (take k order) (table_after old (pushes_of new (take k order)))
first_pushed old new order k same is = pushes_more old new [] (take k order) old same
    (λ x found. node_inside old new order x same is (take_within k order x found)) (starts_as_old old new)

pub first_closed : (old new : List Hop) (order : List ℕ) (k : ℕ) → IsPushOrder old new order
    → IsClosedDownstream old new (take k order)
first_closed old new order k is = beginning_closed old new (take k order) (drop k order)
    (subst (IsPushOrder old new) (sym (take-append-drop k order)) is)

pub first_routed : (old new : List Hop) (order : List ℕ) (k : ℕ) → IsPushOrder old new order
    → AreRoutedFirst old new (take k order)
first_routed old new order k is = beginning_routed_first old new (take k order) (drop k order)
    (subst (IsPushOrder old new) (sym (take-append-drop k order)) is)

-- so a node that has a route before and after all pushes has one meanwhile
pub routes_kept : RoutesAreKept
routes_kept n before new order k x are table is had has =
    let old = table_of hop_codec n before in
    let same : length old ≡ length new = (last_is_table hop_codec n before are).one_each ∙ sym table.one_each in
    rw (after_append (blank hop_codec n) before (pushes_of new (take k order)))
    (keeps_routes old new (take k order) (table_after old (pushes_of new (take k order)))
    (first_pushed old new order k same is)
    (first_closed old new order k is) x (first_routed old new order k is) had has)

-- a number of nodes of the order are pushed. The first three fields are what `push_all` requires
pub record IsPushedTo (old now : Knowledge Hop) (new : List Hop) (order : List ℕ) (i : ℕ) : Type 0 where
  pub old_table : IsTable old.nodes (last_hops old)
  pub new_table : IsTable old.nodes new
  pub is_order : IsPushOrder (last_hops old) new order
  pub history : now ≡ record old { known = old.known ++ pushes_of new (take i order) }

pub push_begins : (old : Knowledge Hop) (new : List Hop) (order : List ℕ) → IsHistory hop_codec old.nodes old.known
    → IsTable old.nodes new
    → IsPushOrder (last_hops old) new order → IsPushedTo old old new order 0
push_begins old new order are table is = record {
  old_table = last_is_table hop_codec old.nodes old.known are;
  new_table = table;
  is_order = is;
  history = ap (λ (h : List (Push Hop)). record old { known = h }) (sym (append-nil old.known));
}

pushed_in_range : (old new : List Hop) (nodes : List ℕ) (table : List Hop) → length old ≡ length new → IsInRange old
    → IsInRange new
    → IsPushed old new nodes table → IsInRange table
pushed_in_range old new nodes table same old_range new_range pushed x y sends = ⊎_elim
    (λ here. let low = new_range x y (sym (pushed.these x here) ∙ sends) in omega (arith, pushed.one_length, same))
    (λ out. let low = old_range x y (sym (pushed.others x out) ∙ sends) in omega (arith, pushed.one_length))
    (cases_member nodes x)

module _ {old now : Knowledge Hop} {new : List Hop} {order : List ℕ} {i : ℕ}
    (done : IsPushedTo old now new order i) where
  one_length : length (last_hops old) ≡ length new
  one_length = done.old_table.one_each ∙ sym done.new_table.one_each

  same_nodes : now.nodes ≡ old.nodes
  same_nodes = ap (λ (k : Knowledge Hop). k.nodes) done.history

  pushed : IsPushed (last_hops old) new (take i order) (last_hops now)
  pushed = rw (
    ap last_hops done.history,
    after_append (blank hop_codec old.nodes) old.known (pushes_of new
        (take i order)),
  )
      (first_pushed (last_hops old) new order i one_length done.is_order)

  pub inside : i < length order → get_or order i 0 < length new
  inside low =
      let x : ℕ = get_or order i 0 in
      node_inside (last_hops old) new order x one_length done.is_order (i, low, get_or_default order i x 0 low)

  pub has_word : i < length order → get_or order i 0 < now.nodes
  has_word low = omega (arith, inside low, same_nodes, done.new_table.one_each)

  next : i < length order
      → IsPushed (last_hops old) new (take (i
      + 1) order) (set (last_hops now) (get_or order i 0) (get_or new (get_or order i 0) Here))
  next low =
      let x : ℕ = get_or order i 0 in
      rw (take_more order i 0 low)
      (push_is_one_more (last_hops old) new (take i order) (last_hops now) x (get_or new x Here) one_length
      (slice_get-get_or new x Here (inside low)) pushed)

  -- the next push makes no loop
  pub next_table : NeverLoops → i < length order
      → IsTable now.nodes (set (last_hops now) (get_or order i 0) (get_or new (get_or order i 0) Here))
  next_table never low =
      let x : ℕ = get_or order i 0 in
      let table : List Hop = set (last_hops now) x (get_or new x Here) in
      let nodes : List ℕ = take (i + 1) order in
      record {
        one_each = (next low).one_length ∙ (done.old_table.one_each ∙ sym same_nodes);
        in_range =
            pushed_in_range (last_hops old) new nodes table one_length done.old_table.in_range done.new_table.in_range
            (next low);
        loop_free = never (last_hops old) new nodes table done.old_table.loop_free done.new_table.loop_free
            (first_closed (last_hops old) new order (i + 1) done.is_order) (next low);
      }

  pub push_goes_on : {after : Knowledge Hop} → i < length order
      → after ≡ record now { known = now.known ++ push (get_or order i 0) (get_or new (get_or order i 0) Here) ∷ [] }
      → IsPushedTo old after new order (i + 1)
  push_goes_on low is =
      let x : ℕ = get_or order i 0 in
      let p : Push Hop = push x (get_or new x Here) in
      let pushes : pushes_of new (take (i + 1) order) ≡ pushes_of new (take i order) ++ p ∷ [] =
      ap (pushes_of new) (take_more order i 0 low)
      ∙ map-append (λ (y : ℕ). push y (get_or new y Here)) (take i order) (x ∷ []) in
      let all : now.known ++ p ∷ [] ≡ old.known ++ pushes_of new (take (i + 1) order) =
      ap (λ (k : Knowledge Hop). k.known ++ p ∷ []) done.history
      ∙ (append_assoc old.known (pushes_of new (take i order)) (p ∷ [])
      ∙ ap (λ (h : List (Push Hop)). old.known ++ h) (sym pushes)) in
      record {
        old_table = done.old_table;
        new_table = done.new_table;
        is_order = done.is_order;
        history = is ∙ (ap (λ (k : Knowledge Hop). record k { known = now.known ++ p ∷ [] }) done.history
            ∙ ap (λ (h : List (Push Hop)). record old { known = h }) all);
      }

  -- after the last push the table is the new one
  pub push_ends : length order ≤ i → last_hops now ≡ new
  push_ends past = ends_as_new (last_hops old) new order (last_hops now) one_length done.is_order
      (subst (λ (nodes : List ℕ). IsPushed (last_hops old) new nodes (last_hops now)) (take_all i order past) pushed)
