-- Tables with more nodes after their end, which are cut off.
use Rattle.std.proofs.Common.{Some, ◌↔◌, append_assoc, Bool, List, not, ◌+◌, [], ap, arith, get_or, length}
use Rattle.std.proofs.Common.{length-append, refl, replicate, slice_get, subst}
use Rattle.std.proofs.Common.{suc, sym, true, zero, ℕ, ◌++◌, ◌-◌, ◌<◌, ◌≤◌, ◌∙◌, ◌∷◌, ◌≡◌}
use Rattle.std.specs.List.{count_by}
use Rattle.std.proofs.lemmas.List.{length-replicate, replicate-append-replicate}
use Rattle.std.proofs.lemmas.Option.{none-some}
use Rattle.fr_tables.specs.Pushes.{AreAlike, IsBefore, IsPushOrder, IsWave, differ_at, is_same}
use Rattle.fr_tables.specs.Tables.{Arrives, IsInRange, IsLoop, IsLoopFree, IsWalk, SendsOn, end_of}
use Rattle.fr_tables.specs.declared.hop.Hop.{Hop}
use Rattle.fr_tables.specs.declared.hop.Hop.TheVariants.{CutOff, Here, To}
use Rattle.fr_shared.specs.Histories.{blank}
use Rattle.fr_shared.specs.HopTables.{IsTable, hop_codec, padded}
use Rattle.fr_shared.proofs.HopTables.{blank_sends}

pub padded_length : (n : ℕ) (table : List Hop) → length table ≤ n → length (padded n table) ≡ n
padded_length n table low =
    let k : ℕ = n - length table in
    omega (arith, length-append table (replicate k CutOff), length-replicate k CutOff)

pub padded_none : (n : ℕ) → padded n [] ≡ blank hop_codec n
padded_none n = ap (λ (k : ℕ). replicate k CutOff) (omega arith)

-- a table that is padded twice
pub padded_again : (m n : ℕ) (table : List Hop) → m ≤ n → padded n (padded m table) ≡ padded n table
padded_again m n table low =
    let k : ℕ = m - length table in
    let long : length (padded m table) ≡ length table + k =
    length-append table (replicate k CutOff) ∙ ap (λ (l : ℕ). length table + l) (length-replicate k CutOff) in
    let all : k + (n - length (padded m table)) ≡ n - length table = omega (arith, long) in
    append_assoc table (replicate k CutOff) (replicate (n - length (padded m table)) CutOff)
    ∙ ap (λ (l : List Hop). table ++ l) (replicate-append-replicate k (n - length (padded m table)) CutOff
    ∙ ap (λ (l : ℕ). replicate l CutOff) all)

-- the hop of a node of the longer table
longer_hop : (k : ℕ) (table : List Hop) (x : ℕ) → x < length table + k
    → get_or (table ++ replicate k CutOff) x Here ≡ get_or table x CutOff
longer_hop zero [] x low = absurd (omega arith)
longer_hop (suc k) [] zero low = refl
longer_hop (suc k) [] (suc x) low = longer_hop k [] x (omega arith)
longer_hop k (hop ∷ table) zero low = refl
longer_hop k (hop ∷ table) (suc x) low = longer_hop k table x (omega arith)

pub padded_hop : (n : ℕ) (table : List Hop) (x : ℕ) → x < length (padded n table)
    → get_or (padded n table) x Here ≡ get_or table x CutOff
padded_hop n table x low =
    let k : ℕ = n - length table in
    longer_hop k table x (omega (arith, length-append table (replicate k CutOff), length-replicate k CutOff))

-- The nodes after the end send on to no node, so the walks are the same.

pub padded_sends : (k : ℕ) (table : List Hop) (x y : ℕ) → SendsOn table x y → SendsOn (table ++ replicate k CutOff) x y
padded_sends k [] x y is = absurd (none-some (To y) is)
padded_sends k (hop ∷ table) zero y is = is
padded_sends k (hop ∷ table) (suc x) y is = padded_sends k table x y is

pub only_sends : (k : ℕ) (table : List Hop) (x y : ℕ) → SendsOn (table ++ replicate k CutOff) x y → SendsOn table x y
only_sends k [] x y is = absurd (blank_sends k x y is)
only_sends k (hop ∷ table) zero y is = is
only_sends k (hop ∷ table) (suc x) y is = only_sends k table x y is

padded_walk : (k : ℕ) (table : List Hop) (x : ℕ) (ys : List ℕ) → IsWalk table x ys
    → IsWalk (table ++ replicate k CutOff) x ys
padded_walk k table x [] goes = tt
padded_walk k table x (y ∷ ys) goes = (padded_sends k table x y goes.0, padded_walk k table y ys goes.1)

only_walk : (k : ℕ) (table : List Hop) (x : ℕ) (ys : List ℕ) → IsWalk (table ++ replicate k CutOff) x ys
    → IsWalk table x ys
only_walk k table x [] goes = tt
only_walk k table x (y ∷ ys) goes = (only_sends k table x y goes.0, only_walk k table y ys goes.1)

padded_here : (k : ℕ) (table : List Hop) (x : ℕ) → slice_get table x ≡ Some Here
    → slice_get (table ++ replicate k CutOff) x ≡ Some Here
padded_here k [] x is = absurd (none-some Here is)
padded_here k (hop ∷ table) zero is = is
padded_here k (hop ∷ table) (suc x) is = padded_here k table x is

blank_here : (k x : ℕ) → ¬ (slice_get (replicate k CutOff) x ≡ Some Here)
blank_here zero x is = cc
blank_here (suc k) zero is = cc
blank_here (suc k) (suc x) is = blank_here k x is

only_here : (k : ℕ) (table : List Hop) (x : ℕ) → slice_get (table ++ replicate k CutOff) x ≡ Some Here
    → slice_get table x ≡ Some Here
only_here k [] x is = absurd (blank_here k x is)
only_here k (hop ∷ table) zero is = is
only_here k (hop ∷ table) (suc x) is = only_here k table x is

-- and the same nodes have a route
pub arrives_longer : (k : ℕ) (table : List Hop) (x : ℕ) → Arrives (table ++ replicate k CutOff) x ↔ Arrives table x
arrives_longer k table x = (
  λ r. record { by = r.by; goes = only_walk k table x r.by r.goes; home = only_here k table (end_of x r.by) r.home },
  λ r. record {
    by = r.by;
    goes = padded_walk k table x r.by r.goes;
    home = padded_here k table (end_of x r.by) r.home;
  },
)

only_loop : (k : ℕ) (table : List Hop) (nodes : List ℕ) → IsLoop (table ++ replicate k CutOff) nodes
    → IsLoop table nodes
only_loop k table [] is = is
only_loop k table (x ∷ xs) is = only_walk k table x (xs ++ x ∷ []) is

pub padded_in_range : (n : ℕ) (table : List Hop) → IsInRange table → IsInRange (padded n table)
padded_in_range n table range x y is =
    let low = range x y (only_sends (n - length table) table x y is) in
    omega (arith, low, length-append table (replicate (n - length table) CutOff))

pub padded_loop_free : (n : ℕ) (table : List Hop) → IsLoopFree table → IsLoopFree (padded n table)
padded_loop_free n table free nodes loop = free nodes (only_loop (n - length table) table nodes loop)

pub padded_table : (n most : ℕ) (table : List Hop) → IsTable n table → n ≤ most → IsTable most (padded most table)
padded_table n most table is low = record {
  one_each = padded_length most table (omega (arith, is.one_each));
  in_range = padded_in_range most table is.in_range;
  loop_free = padded_loop_free most table is.loop_free;
}

-- Two tables with the same number of nodes differ at the same nodes.

module _ (k : ℕ) where
  abbrev longer : List Hop → List Hop
  longer table = table ++ replicate k CutOff

  same_longer : (old new : List Hop) (x : ℕ) → length old ≡ length new → slice_get old x ≡ slice_get new x
      → slice_get (longer old) x ≡ slice_get (longer new) x
  same_longer [] [] x long is = refl
  same_longer [] (g ∷ new) x long is = absurd (omega arith)
  same_longer (h ∷ old) [] x long is = absurd (omega arith)
  same_longer (h ∷ old) (g ∷ new) zero long is = is
  same_longer (h ∷ old) (g ∷ new) (suc x) long is = same_longer old new x (omega arith) is

  same_shorter : (old new : List Hop) (x : ℕ) → length old ≡ length new
      → slice_get (longer old) x ≡ slice_get (longer new) x → slice_get old x ≡ slice_get new x
  same_shorter [] [] x long is = refl
  same_shorter [] (g ∷ new) x long is = absurd (omega arith)
  same_shorter (h ∷ old) [] x long is = absurd (omega arith)
  same_shorter (h ∷ old) (g ∷ new) zero long is = is
  same_shorter (h ∷ old) (g ∷ new) (suc x) long is = same_shorter old new x (omega arith) is

blank_same : (k x : ℕ) → is_same (slice_get (replicate k CutOff) x) (slice_get (replicate k CutOff) x) ≡ true
blank_same zero x = refl
blank_same (suc k) zero = refl
blank_same (suc k) (suc x) = blank_same k x

test_longer : (k : ℕ) (old new : List Hop) (x : ℕ) → length old ≡ length new
    → differ_at (longer k old) (longer k new) x ≡ differ_at old new x
test_longer k [] [] x long = ap (λ (b : Bool). not b) (blank_same k x)
test_longer k [] (g ∷ new) x long = absurd (omega arith)
test_longer k (h ∷ old) [] x long = absurd (omega arith)
test_longer k (h ∷ old) (g ∷ new) zero long = refl
test_longer k (h ∷ old) (g ∷ new) (suc x) long = test_longer k old new x (omega arith)

wave_longer : (k : ℕ) (old new : List Hop) (x wave : ℕ) → length old ≡ length new → IsWave old new x wave
    → IsWave (longer k old) (longer k new) x wave
wave_longer k old new x wave long is =
    let tests : differ_at (longer k old) (longer k new) ≡ differ_at old new = λ i y. test_longer k old new y long i in
    record {
      walk = is.walk;
      whole = record {
        goes = padded_walk k new x is.walk is.whole.goes;
        ends = λ y sends. is.whole.ends y (only_sends k new (end_of x is.walk) y sends);
      };
      number = is.number ∙ ap (λ (t : ℕ → Bool). count_by t (x ∷ is.walk)) (sym tests);
    }

before_longer : (k : ℕ) (old new : List Hop) (x y : ℕ) → length old ≡ length new → IsBefore old new x y
    → IsBefore (longer k old) (longer k new) x y
before_longer k old new x y long is =
    let of_x = arrives_longer k new x in
    let of_y = arrives_longer k new y in
    let alike : AreAlike (longer k new) x y → AreAlike new x y =
    λ same. (λ r. of_y.0 (same.0 (of_x.1 r)), λ r. of_x.0 (same.1 (of_y.1 r))) in
    record {
      wave_x = is.wave_x;
      wave_y = is.wave_y;
      of_x = wave_longer k old new x is.wave_x long is.of_x;
      of_y = wave_longer k old new y is.wave_y long is.of_y;
      routed = λ r. of_x.1 (is.routed (of_y.0 r));
      earlier = λ same. is.earlier (alike same);
      lower = λ same. is.lower (alike same);
    }

-- So they have the same push order.
order_longer : (k : ℕ) (old new : List Hop) (order : List ℕ) → length old ≡ length new → IsPushOrder old new order
    → IsPushOrder (longer k old) (longer k new) order
order_longer k old new order long is = record {
  these = λ x. (
    λ found same. (is.these x).0 found (same_shorter k old new x long same),
    λ differ. (is.these x).1 (λ same. differ (same_longer k old new x long same)),
  );
  sorted = λ i j lt low. before_longer k old new (get_or order i 0) (get_or order j 0) long (is.sorted i j lt low);
}

pub padded_order : (n : ℕ) (old new : List Hop) (order : List ℕ) → length old ≡ length new → IsPushOrder old new order
    → IsPushOrder (padded n old) (padded n new) order
padded_order n old new order long is =
    subst (λ (m : ℕ). IsPushOrder (padded n old) (new ++ replicate (n - m) CutOff) order) long
    (order_longer (n - length old) old new order long is)
