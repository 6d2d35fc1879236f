-- Walks of a table from a node back to itself: which is the first, how long it is, and whether there is one.
use Rattle.std.proofs.Common.{Contains, List, [], ap, arith, drop, eqb, false, get_or, inl, inr, length, length-drop}
use Rattle.std.proofs.Common.{ne_eqb, refl, subst, suc, sym, zero, ℕ}
use Rattle.std.proofs.Common.{⊎_elim, ◌++◌, ◌+◌, ◌<◌, ◌∙◌, ◌∷◌, ◌≡◌, ◌≤◌, ◌⊎◌}
use Rattle.std.proofs.lemmas.Bool.{cases_eq, false≢true}
use Rattle.std.proofs.lemmas.List.{get_or-drop, length_push}
use Rattle.std.proofs.lemmas.List.Elements.{Contains-append_left, Contains-push, Contains-push_cases}
use Rattle.std.proofs.lemmas.Map.Keys.{IsDistinct-from_apart, apart_from_distinct}
use Rattle.std.specs.Cmp.{nat_eq_equiv}
use Rattle.std.specs.List.{IsDistinct}
use Rattle.fr_core.proofs.Pigeons.{IsDistinct-more, distinct_length}
use Rattle.fr_core.proofs.Searching.{cases_below}
use Rattle.fr_tables.specs.Faults.{IsLowestLoop}
use Rattle.fr_tables.specs.Tables.{IsInRange, IsLoop, IsLoopFree, IsWalk, SendsOn, end_of}
use Rattle.fr_tables.specs.declared.hop.Hop.{Hop}
use Rattle.fr_tables.proofs.Members.{Contains-cases, Contains-head, Contains-none, Contains-tail}
use Rattle.fr_tables.proofs.Relations.{walk_append, walk_below}
use Rattle.fr_tables.proofs.Walks.{cases_sends, sends_one, whole_no_loop}

-- a walk from x that comes back to x, and not before
abbrev IsRoundFrom : List Hop → ℕ → Type 0
IsRoundFrom table x = (rest : List ℕ) × IsWalk table x (rest ++ x ∷ []) × ¬ Contains rest x

once_with : (x : ℕ) (rest : List ℕ) → ¬ Contains rest x → IsDistinct eqb rest → IsDistinct eqb (x ∷ rest)
once_with x rest out once = IsDistinct-more x rest (λ y c e. out (subst (λ (q : ℕ). Contains rest q) (sym e) c)) once

not_again : (x : ℕ) (rest : List ℕ) → IsDistinct eqb (x ∷ rest) → ¬ Contains rest x
not_again x rest once (i, low, is) =
    let apart : eqb x (get_or rest i x) ≡ false =
    apart_from_distinct eqb (x ∷ rest) 0 (suc i) x once (omega arith) (omega (arith, low)) in
    let same : eqb x x ≡ false = rw is at apart in
    false≢true (sym same ∙ nat_eq_equiv.refl x)

module _ (table : List Hop) (x : ℕ) where
  -- the first walk to x is the only one
  return_unique : (z : ℕ) (ws bs : List ℕ) → IsWalk table z (ws ++ x ∷ []) → ¬ Contains ws x
      → IsWalk table z (bs ++ x ∷ []) → ¬ Contains bs x → ws ≡ bs
  return_unique z [] [] v a w b = refl
  return_unique z [] (u ∷ bs) v a w b =
      absurd (b (subst (λ (q : ℕ). Contains (u ∷ bs) q) (sends_one table z u x w.0 v.0) (Contains-head u bs)))
  return_unique z (y ∷ ws) [] v a w b =
      absurd (a (subst (λ (q : ℕ). Contains (y ∷ ws) q) (sends_one table z y x v.0 w.0) (Contains-head y ws)))
  return_unique z (y ∷ ws) (u ∷ bs) v a w b =
      let same : y ≡ u = sends_one table z y u v.0 w.0 in
      let goes : IsWalk table u (ws ++ x ∷ []) = subst (λ (q : ℕ). IsWalk table q (ws ++ x ∷ [])) same v.1 in
      let rest : ws ≡ bs =
      return_unique u ws bs goes (λ c. a (Contains-tail x y ws c)) w.1 (λ c. b (Contains-tail x u bs c)) in
      (λ i. same i ∷ rest i)

  -- a walk that has not come to x is no longer
  return_longer : (z : ℕ) (done rest : List ℕ) → IsWalk table z done → ¬ Contains done x
      → IsWalk table z (rest ++ x ∷ []) → length done ≤ length rest
  return_longer z [] rest v out w = omega arith
  return_longer z (y ∷ done) [] v out w =
      absurd (out (subst (λ (q : ℕ). Contains (y ∷ done) q) (sends_one table z y x v.0 w.0) (Contains-head y done)))
  return_longer z (y ∷ done) (u ∷ rest) v out w =
      let goes : IsWalk table u done = subst (λ (q : ℕ). IsWalk table q done) (sends_one table z y u v.0 w.0) v.1 in
      let less : length done ≤ length rest = return_longer u done rest goes (λ c. out (Contains-tail x y done c)) w.1 in
      omega (arith, less)

  -- it goes on from each of its nodes
  walk_from_node : (z : ℕ) (rest : List ℕ) (i d : ℕ) → IsWalk table z (rest ++ x ∷ []) → i < length rest
      → IsWalk table (get_or rest i d) (drop (i + 1) rest ++ x ∷ [])
  walk_from_node z [] i d goes low = absurd (omega (arith, low))
  walk_from_node z (y ∷ rest) zero d goes low = goes.1
  walk_from_node z (y ∷ rest) (suc i) d goes low =
      let further : suc i + 1 ≡ suc (i + 1) = omega arith in
      rw further (walk_from_node y rest i d goes.1 (omega (arith, low)))

  not_later : (rest : List ℕ) (k : ℕ) → ¬ Contains rest x → ¬ Contains (drop k rest) x
  not_later rest k out (i, low, is) =
      out (k + i, omega (arith, low, length-drop k rest), sym (get_or-drop k rest i x) ∙ is)

  -- it comes to no node twice
  return_distinct : (z : ℕ) (rest : List ℕ) → IsWalk table z (rest ++ x ∷ []) → ¬ Contains rest x → IsDistinct eqb rest
  return_distinct z rest goes out =
      IsDistinct-from_apart eqb rest (λ i j d lt low. ne_eqb (get_or rest i d) (get_or rest j d) (λ e.
      let inside : i < length rest = omega (arith, lt, low) in
      let first = walk_from_node z rest i d goes inside in
      let second = walk_from_node z rest j d goes low in
      let from : IsWalk table (get_or rest j d) (drop (i + 1) rest ++ x ∷ []) =
      subst (λ (q : ℕ). IsWalk table q (drop (i + 1) rest ++ x ∷ [])) e first in
      let same : drop (i + 1) rest ≡ drop (j + 1) rest =
      return_unique (get_or rest j d) (drop (i + 1) rest) (drop (j + 1) rest)
      from (not_later rest (i + 1) out) second (not_later rest (j + 1) out) in
      omega (arith, ap length same, length-drop (i + 1) rest, length-drop (j + 1) rest, lt, low)))

  -- so it is short
  return_short : (rest : List ℕ) → IsInRange table → IsWalk table x (rest ++ x ∷ []) → ¬ Contains rest x
      → length rest < length table
  return_short rest range goes out =
      let low : (q : ℕ) → Contains (x ∷ rest) q → q < length table = λ q c. elim (Contains-cases q x rest c) [
        | inl e ↦ subst (λ (w : ℕ). w
            < length table) e (walk_below (SendsOn table) (length table) range x (rest ++ x
            ∷ []) x goes (Contains-push rest x))
        | inr later ↦ walk_below (SendsOn table) (length table) range x (rest ++ x
            ∷ []) q goes (Contains-left rest q later)
      ] in
      let few : length (x ∷ rest) ≤ length table =
      distinct_length (length table) (x ∷ rest) (once_with x rest out (return_distinct x rest goes out)) low in
      omega (arith, few)
    where
      Contains-left : (rest : List ℕ) (q : ℕ) → Contains rest q → Contains (rest ++ x ∷ []) q
      Contains-left rest q c = Contains-append_left rest (x ∷ []) q c

  -- a walk that comes to x has a first part that does
  first_return : (z : ℕ) (xs : List ℕ) → IsWalk table z (xs ++ x ∷ [])
      → (rest : List ℕ) × IsWalk table z (rest ++ x ∷ []) × ¬ Contains rest x
  first_return z [] goes = ([], goes, Contains-none x)
  first_return z (y ∷ ys) goes = elim (cases_eq y x) [
    | inl e ↦ ([], (subst (SendsOn table z) e goes.0, tt), Contains-none x)
    | inr apart ↦
        let (rest, to, out) = first_return y ys goes.1 in
        (y ∷ rest, (goes.0, to), λ c. ⊎_elim apart out (Contains-cases x y rest c))
  ]

  -- a walk as long as the table that has not come back to x never does
  long_no_loop : (done : List ℕ) → IsInRange table → IsWalk table x done → ¬ Contains done x
      → length table ≤ length done
      → (xs : List ℕ) → ¬ IsLoop table (x ∷ xs)
  long_no_loop done range goes out long xs loop =
      let (rest, to, not) = first_return x xs loop in
      let less = return_longer x done rest goes out to in
      let few = return_short rest range to not in
      omega (arith, less, few, long)

  round_of_loop : (xs : List ℕ) → IsLoop table (x ∷ xs) → IsRoundFrom table x
  round_of_loop xs loop = first_return x xs loop

  -- the loop of a node on a loop
  loop_of_round : (round : IsRoundFrom table x) → IsLoop table (x ∷ round.0) × IsDistinct eqb (x ∷ round.0)
  loop_of_round (rest, goes, out) = (goes, once_with x rest out (return_distinct x rest goes out))

  round_or_not : IsInRange table → IsRoundFrom table x ⊎ ¬ IsRoundFrom table x
  round_or_not range = go (length table) [] tt (Contains-none x) (omega arith)
    where
      no_round : ((xs : List ℕ) → ¬ IsLoop table (x ∷ xs)) → ¬ IsRoundFrom table x
      no_round none (rest, goes, out) = none rest goes

      go : (fuel : ℕ) (done : List ℕ) → IsWalk table x done → ¬ Contains done x → length table ≤ length done + fuel
          → IsRoundFrom table x ⊎ ¬ IsRoundFrom table x
      go zero done goes out long = inr (no_round (long_no_loop done range goes out (omega (arith, long))))
      go (suc fuel) done goes out long = elim (cases_sends table (end_of x done)) [
        | inr none ↦ inr (no_round (λ xs. whole_no_loop table x xs done (record { goes = goes; ends = none })))
        | inl sent ↦ elim (cases_eq sent.0 x) [
          | inl e ↦ inl (
            done,
            walk_append (SendsOn table) x done (x ∷ []) goes (subst (SendsOn table (end_of x done)) e sent.1, tt),
            out,
          )
          | inr apart ↦ go fuel (done ++ sent.0 ∷ []) (walk_append (SendsOn table) x done (sent.0 ∷ []) goes (
            sent.1,
            tt,
          ))
              (λ c. ⊎_elim out apart (Contains-push_cases done sent.0 x c)) (omega (
                arith,
                length_push done sent.0,
                long,
              ))
        ]
      ]

-- a table in range has a lowest loop, or none
pub loop_or_free : (table : List Hop) → IsInRange table → ((loop : List ℕ) × IsLowestLoop table loop) ⊎ IsLoopFree table
loop_or_free table range = elim (cases_below (IsRoundFrom table) (λ x. round_or_not table x range) (length table)) [
  | inl found ↦
      let (x, low, round, least) = found in
      let is = loop_of_round table x round in
      inl (
        x ∷ round.0,
        record { is_loop = is.0; once = is.1; lowest = λ y on. least y (round_of_loop table y on.0 on.1) },
      )
  | inr none ↦ inr (λ nodes. free none nodes)
]
  where
    free : ((x : ℕ) → x < length table → ¬ IsRoundFrom table x) → (nodes : List ℕ) → ¬ IsLoop table nodes
    free none [] loop = loop
    free none (y ∷ ys) loop =
        none y (walk_below (SendsOn table) (length table) range y (ys ++ y
        ∷ []) y loop (Contains-push ys y)) (round_of_loop table y ys loop)

pub lowest_unique : (table : List Hop) (a b : List ℕ) → IsLowestLoop table a → IsLowestLoop table b → a ≡ b
lowest_unique table [] b h k = absurd h.is_loop
lowest_unique table (x ∷ rest) [] h k = absurd k.is_loop
lowest_unique table (x ∷ rest) (y ∷ more) h k =
    let same : x ≡ y = omega (arith, h.lowest y (more, k.is_loop), k.lowest x (rest, h.is_loop)) in
    let from : IsWalk table y (rest ++ y ∷ []) = subst (λ (q : ℕ). IsWalk table q (rest ++ q ∷ [])) same h.is_loop in
    let one : rest ≡ more = return_unique table y y rest more from
    (subst (λ (q : ℕ). ¬ Contains rest q) same (not_again x rest h.once)) k.is_loop (not_again y more k.once) in
    (λ i. same i ∷ one i)
