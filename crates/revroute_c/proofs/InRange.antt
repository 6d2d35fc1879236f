-- Tables of numbers that all name hops.
use Rattle.std.proofs.Common.{find, length, map, nat_le, not, subst, sym, cond, false, true, Bool, ℕ, List, [], ◌∷◌}
use Rattle.std.proofs.Common.{◌++◌, ◌<◌, ◌≤◌}
use Rattle.std.proofs.Common.{arith, if◌then◌else◌, refl, replicate, ◌&&◌, ◌==◌, ◌-◌, ◌≡◌, ◌∙◌, All, None, Some, Option}
use Rattle.std.proofs.Common.{length-append}
use Rattle.std.proofs.lemmas.Bool.{leb-false, true≢false}
use Rattle.std.specs.Option.{option_or}
use Rattle.std.proofs.lemmas.List.Folds.{find-append}
use Rattle.std.proofs.lemmas.List.{length-map, length-replicate}
use Rattle.std.proofs.lemmas.List.Elements.{All-append, All-cons, All-get_or, All-nil, All-replicate}
use Rattle.std.proofs.lemmas.Option.{get_or_from_slice_get, none-some, slice_get_within}
use Rattle.fr_shared.specs.HopTables.{padded}
use Rattle.fr_shared.proofs.HopPadding.{padded_length}
use Rattle.fr_tables.specs.Faults.{AreTables}
use Rattle.fr_tables.specs.Tables.{IsInRange, IsFirstOutside}
use Rattle.fr_tables.specs.declared.hop.Hop.{Hop}
use Rattle.fr_tables.specs.declared.hop.Hop.TheVariants.{Here, To, CutOff}
use Rattle.revroute_c.specs.PushOrders.{AreInRange, hops_of, nodes_of}
use Rattle.revroute_c.specs.Questions.{cut_off, here}
use Rattle.revroute_c.specs.Tables.{hop_of, is_outside}

-- the hop names no node, or one below n
abbrev pub IsBelow : ℕ → Hop → Type 0
IsBelow n Here = Unit {0}
IsBelow n (To y) = y < n
IsBelow n CutOff = Unit {0}

-- the hops of a table are all below its length
pub range_of : (table : List Hop) (n : ℕ) → n ≡ length table → All (IsBelow n) table → IsInRange table
range_of table n is each x y sends =
    let low : x < length table = slice_get_within table x (To y) sends in
    let below : y < n =
    subst (IsBelow n) (get_or_from_slice_get table x (To y) Here sends) (All-get_or (IsBelow n) table x Here low each)
    in
    omega (arith, below, is)

-- by the tests of a number
hop_by_tests : (n number : ℕ) (high is_here is_cut : Bool) → nat_le n number ≡ high
    → (high && (not is_here && not is_cut)) ≡ false
    → IsBelow n (if is_here then Here else (if is_cut then CutOff else To number))
hop_by_tests n number high true is_cut of_high inside = tt
hop_by_tests n number high false true of_high inside = tt
hop_by_tests n number true false false of_high inside = absurd (true≢false inside)
hop_by_tests n number false false false of_high inside = leb-false n number of_high

-- numbers that name hops
pub hops_below : (n : ℕ) (numbers : List ℕ) → find (is_outside n) numbers ≡ None → All (IsBelow n) (map hop_of numbers)
hops_below n [] none = All-nil (IsBelow n)
hops_below n (x ∷ xs) none = by (is_outside n x) refl (hops_below n xs) none
  where
    by : (test : Bool) → is_outside n x ≡ test → (find (is_outside n) xs ≡ None → All (IsBelow n) (map hop_of xs))
        → cond test (Some x) (find (is_outside n) xs) ≡ None → All (IsBelow n) (map hop_of (x ∷ xs))
    by true is more found = absurd (none-some x (sym found))
    by false is more rest =
        All-cons (IsBelow n) (hop_of x) (map hop_of xs)
        (hop_by_tests n x (nat_le n x) (x == here) (x == cut_off) refl is) (more rest)

pub padded_in_range : (n : ℕ) (numbers : List ℕ) → length numbers ≤ n → find (is_outside n) numbers ≡ None
    → IsInRange (padded n (map hop_of numbers))
padded_in_range n numbers fits none =
    let hops : List Hop = map hop_of numbers in
    let missing : ℕ = n - length hops in
    range_of (padded n hops) n
    (omega (
      arith,
      fits,
      length-append hops (replicate missing CutOff),
      length-map numbers hop_of,
      length-replicate missing CutOff,
    ))
    (All-append (IsBelow n) hops (replicate missing CutOff) (hops_below n numbers none)
    (All-replicate (IsBelow n) missing CutOff tt))

-- no such table has a hop out of range
pub none_outside : (table : List Hop) (x : ℕ) → IsInRange table → IsFirstOutside table x → ⊥
none_outside table x inside first = omega (arith, inside first.at x first.sends, first.outside)

-- a prefix of the numbers
pub front_inside : (p : ℕ → Bool) (xs ys : List ℕ) → find p (xs ++ ys) ≡ None → (find p xs ≡ None) × (find p ys ≡ None)
front_inside p xs ys none = by (find p xs) (find p ys) (sym (find-append p xs ys) ∙ none)
  where
    by : (a b : Option ℕ) → option_or a b ≡ None → (a ≡ None) × (b ≡ None)
    by None b is = (refl, is)
    by (Some x) b is = absurd (none-some x (sym is))

-- two tables of numbers that name hops
pub are_tables : (old new : List ℕ) → AreInRange old new
    → AreTables (hops_of (nodes_of old new) old) (hops_of (nodes_of old new) new)
are_tables old new is =
    let n : ℕ = nodes_of old new in
    let none = front_inside (is_outside n) old new is.in_range in
    let old_long : length (hops_of n old) ≡ n =
    padded_length n (map hop_of old) (omega (arith, length-map old hop_of)) in
    let new_long : length (hops_of n new) ≡ n =
    padded_length n (map hop_of new) (omega (arith, length-map new hop_of)) in
    record {
      one_length = record { same = old_long ∙ sym new_long; few = omega (arith, new_long, is.few) };
      old_range = padded_in_range n old (omega arith) none.0;
      new_range = padded_in_range n new (omega arith) none.1;
    }

-- a table with a number for each node
pub all_in_range : (n : ℕ) (numbers : List ℕ) → length numbers ≡ n → find (is_outside n) numbers ≡ None
    → IsInRange (map hop_of numbers)
all_in_range n numbers is none =
    range_of (map hop_of numbers) n (sym is ∙ sym (length-map numbers hop_of)) (hops_below n numbers none)
