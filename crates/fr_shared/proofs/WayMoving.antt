-- Walks while the ways of one new table are pushed.
use Rattle.std.proofs.Common.{Contains, List, [], ap, arith, cond, eqb, false}
use Rattle.std.proofs.Common.{inl, inr}
use Rattle.std.proofs.Common.{length, map, refl, set, subst, suc, sym, take, true, zero, ℕ}
use Rattle.std.proofs.Common.{◌++◌, ◌+◌, ◌-◌}
use Rattle.std.proofs.Common.{◌≤◌, ◌∙◌, ◌∷◌, ◌≡◌}
use Rattle.std.specs.List.{count_by, filter, range_with_len}
use Rattle.std.proofs.lemmas.Bool.{cases_lt}
use Rattle.std.proofs.lemmas.List.{map-append}
use Rattle.std.proofs.lemmas.List.{take-append-le}
use Rattle.std.proofs.Math.Seq.{take-append-add}
use Rattle.std.proofs.lemmas.List.Sums.{sum_by-append}
use Rattle.fr_tables.specs.Walks.{IsWalk, end_of}
use Rattle.fr_tables.proofs.Relations.{come_more, come_once}
use Rattle.fr_ways.specs.Phases.{empties, growing_nodes, kept, sheds, shrinking_nodes}
use Rattle.fr_ways.specs.Ways.{IsPartOf, Sends, ways}
use Rattle.fr_shared.specs.declared.view.Push.{Push}
use Rattle.fr_shared.specs.Histories.{StartsWith, blank, push, table_after, table_of}
use Rattle.fr_shared.specs.Reading.{GoesBy}
use Rattle.fr_shared.specs.WayLaws.{LeadToOneTable}
use Rattle.fr_shared.specs.WayParts.{pushes_below}
use Rattle.fr_shared.specs.WayTables.{grows, pushes_of, shrinks, way_codec}
use Rattle.fr_shared.proofs.Histories.{after_append, first_known, goes_starts, last_is_table, length_after, starts_after}
use Rattle.fr_shared.proofs.Histories.{starts_long}
use Rattle.fr_shared.proofs.WayPushing.{empties_then, is_part, kept_old, kept_then, pushes_same, set_within, shrunk_after}

take_past : (ps qs : List (Push (List ℕ))) (k : ℕ) → length ps ≤ k → take k (ps ++ qs) ≡ ps ++ take (k - length ps) qs
take_past ps qs k high =
    let there : length ps + (k - length ps) ≡ k = omega (arith, high) in
    ap (λ (i : ℕ). take i (ps ++ qs)) (sym there) ∙ take-append-add ps qs (k - length ps)

-- all pushed lists are parts of a table
abbrev AreParts : List (Push (List ℕ)) → List (List ℕ) → Type 0
AreParts [] bound = Unit {0}
AreParts (p ∷ ps) bound = ((z : ℕ) → Contains p.item z → Sends bound p.node z) × AreParts ps bound

after_part : (bound table : List (List ℕ)) (ps : List (Push (List ℕ))) → IsPartOf table bound → AreParts ps bound
    → IsPartOf (table_after table ps) bound
after_part bound table [] part are = part
after_part bound table (p ∷ ps) part are =
    after_part bound (set table p.node p.item) ps (set_within bound table p.node p.item part are.0) are.1

first_parts : (k : ℕ) (ps : List (Push (List ℕ))) (bound : List (List ℕ)) → AreParts ps bound
    → AreParts (take k ps) bound
first_parts zero ps bound are = tt
first_parts (suc k) [] bound are = tt
first_parts (suc k) (p ∷ ps) bound are = (are.0, first_parts k ps bound are.1)

parts_of : (f : ℕ → List ℕ) (xs : List ℕ) (bound : List (List ℕ)) → ((x z : ℕ) → Contains (f x) z → Sends bound x z)
    → AreParts (map (λ (x : ℕ). push x (f x)) xs) bound
parts_of f [] bound of = tt
parts_of f (x ∷ xs) bound of = (of x, parts_of f xs bound of)

-- Shrinks and grows

module _ (old new : List (List ℕ)) (long : length old ≡ length new) where
  -- once all nodes have shrunk, the table is a part of the new one
  shrunk_new : IsPartOf (table_after old (shrinks old new)) new
  shrunk_new =
      let n : ℕ = length new in
      let xs : List ℕ = range_with_len 0 n in
      let a : List (Push (List ℕ)) = pushes_below (sheds old new) (kept old new) n in
      let b : List (Push (List ℕ)) = pushes_below (empties old new) (kept old new) n in
      let shed = table_after old a in
      let were = shrunk_after false n old new long refl in
      let same : pushes_below (empties shed new) (kept shed new) n ≡ b =
      pushes_same (empties shed new) (empties old new) (kept shed new) (kept old new) xs
      (empties_then old shed new were) (kept_then old shed new were) in
      let split : shrinks old new ≡ a ++ b =
      map-append (λ (x : ℕ). push x (kept old new x)) (filter (sheds old new) xs) (filter (empties old new) xs) in
      let is : table_after shed (pushes_below (empties shed new) (kept shed new) n)
      ≡ table_after old (shrinks old new) =
      ap (table_after shed) same ∙ (sym (after_append old a b) ∙ ap (table_after old) (sym split)) in
      subst (λ (t : List (List ℕ)). IsPartOf t new) is
      (is_part old shed new were (table_after shed (pushes_below (empties shed new) (kept shed new) n))
      (shrunk_after true n shed new (length_after old a ∙ long) refl))

  -- after the first k pushes
  first_old : (k : ℕ) → k ≤ length (shrinks old new) → IsPartOf (table_after old (take k (pushes_of old new))) old
  first_old k low = rw (take-append-le k (shrinks old new) (grows old new) low)
      (after_part old old (take k (shrinks old new)) (λ y z sends. sends)
      (first_parts k (shrinks old new) old (parts_of (kept old new) (shrinking_nodes old new) old (kept_old old new))))

  later_new : (k : ℕ) → length (shrinks old new) ≤ k → IsPartOf (table_after old (take k (pushes_of old new))) new
  later_new k high =
      let more : ℕ = k - length (shrinks old new) in
      rw (
        take_past (shrinks old new) (grows old new) k high,
        after_append old (shrinks old new)
            (take more (grows old new)),
      )
      (after_part new (table_after old (shrinks old new)) (take more (grows old new)) shrunk_new
      (first_parts more (grows old new) new (parts_of (ways new) (growing_nodes old new) new (λ x z found. found))))

-- Walks

-- the nodes of a walk: first along one table, and then along another
record IsSplit (old new : List (List ℕ)) (x : ℕ) (nodes : List ℕ) : Type 0 where
  first : List ℕ
  later : List ℕ
  all : nodes ≡ first ++ later
  goes : IsWalk (Sends old) x first
  goes_on : IsWalk (Sends new) (end_of x first) later

module _ {n : ℕ} {before : List (Push (List ℕ))} {new : List (List ℕ)} {known after : List (Push (List ℕ))}
    (one : LeadToOneTable n before new known after) where
  abbrev old : List (List ℕ)
  old = table_of way_codec n before

  -- how many of the pushes are in a history
  abbrev count : List (Push (List ℕ)) → ℕ
  count h = length h - length before

  long : length old ≡ length new
  long = (last_is_table way_codec n before one.tables).one_each ∙ sym one.new_table.one_each

  history_is : (h : List (Push (List ℕ))) → StartsWith h before → StartsWith after h
      → table_of way_codec n h ≡ table_after old (take (count h) (pushes_of old new))
  history_is h begins ends =
      ap (table_of way_codec n) (first_known before (pushes_of old new) h after one.ends ends begins)
      ∙ after_append (blank way_codec n) before (take (count h) (pushes_of old new))

  -- once all shrinks are known, the walk is one of the new table
  goes_new : (h : List (Push (List ℕ))) (x : ℕ) (ys : List ℕ) → StartsWith h before → length (shrinks old new) ≤ count h
      → GoesBy way_codec n h x ys after → IsWalk (Sends new) x ys
  goes_new h x [] begins high goes = tt
  goes_new h x (y ∷ ys) begins high goes =
      let g : List (Push (List ℕ)) = goes.0 in
      let from : StartsWith g before = starts_after g h before goes.1 begins in
      let more : length (shrinks old new) ≤ count g = omega (arith, high, starts_long g h goes.1) in
      let is = history_is g from (goes_starts way_codec n g y ys after goes.4) in (
        later_new old new long (count g) more x y (subst (λ (t : List (List ℕ)). Sends t x y) is goes.3),
        goes_new g y ys from more goes.4,
      )

  splits : (h : List (Push (List ℕ))) (x : ℕ) (ys : List ℕ) → StartsWith h before
      → GoesBy way_codec n h x ys after → IsSplit old new x ys
  splits h x [] begins goes = record { first = []; later = []; all = refl; goes = tt; goes_on = tt }
  splits h x (y ∷ ys) begins goes =
      let g : List (Push (List ℕ)) = goes.0 in
      let from : StartsWith g before = starts_after g h before goes.1 begins in
      let sends = subst (λ (t : List (List ℕ)). Sends t x y)
      (history_is g from (goes_starts way_codec n g y ys after goes.4)) goes.3 in
      elim (cases_lt (count g) (length (shrinks old new))) [
        | inl low ↦ let s = splits g y ys from goes.4 in record {
          first = y ∷ s.first;
          later = s.later;
          all = ap (λ (l : List ℕ). y ∷ l) s.all;
          goes = (first_old old new long (count g) (omega (arith, low)) x y sends, s.goes);
          goes_on = s.goes_on;
        }
        | inr high ↦ record {
          first = [];
          later = y ∷ ys;
          all = refl;
          goes = tt;
          goes_on = (later_new old new long (count g) high x y sends, goes_new g y ys from high goes.4);
        }
      ]

  pub twice_at_most : (x : ℕ) (ys : List ℕ) (z : ℕ) → GoesBy way_codec n known x ys after
      → count_by (eqb z) (x ∷ ys) ≤ 2
  twice_at_most x ys z goes =
      let s = splits known x ys one.begins goes in
      let last : ℕ = end_of x s.first in
      let in_old = come_once (Sends old) z x s.first (last_is_table way_codec n before one.tables).cycle_free s.goes in
      let in_new = come_once (Sends new) z last s.later one.new_table.cycle_free s.goes_on in
      let both = sum_by-append (λ (y : ℕ). cond {A = ℕ} (eqb z y) 1 0) (x ∷ s.first) s.later in
      let more = come_more z last s.later in
      rw s.all (omega (arith, in_old, in_new, both, more))
