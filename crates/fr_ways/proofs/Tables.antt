-- Pushes of tables of ways.
use Rattle.std.proofs.Common.{Contains, List, [], arith, eqb, inl, inr, length, length-set, refl, set, subst, sym, ℕ}
use Rattle.std.proofs.Common.{⊎_elim}
use Rattle.std.proofs.Common.{◌++◌, ◌+◌, ◌<◌, ◌∙◌, ◌∷◌, ◌≡◌, ◌≤◌, ◌↔◌, ◌⊎◌}
use Rattle.std.specs.List.{count_by}
use Rattle.std.specs.Prelude.{bytes_eq}
use Rattle.std.proofs.lemmas.Bool.{cases_Bool, cases_eq, false≢true}
use Rattle.std.proofs.lemmas.List.{get_or-set_other, get_or-set_same}
use Rattle.std.proofs.lemmas.List.Elements.{Contains-append_left, Contains-push, Contains-push_cases}
use lib.Pointwise.{bytes_decides}
use Rattle.fr_tables.specs.Walks.{IsWalk}
use Rattle.fr_tables.proofs.ClosedSets.{IsMove, clean_walk, comes_twice, no_cycle_is_new, walk_clean}
use Rattle.fr_tables.proofs.Members.{Contains-none}
use Rattle.fr_ways.specs.Pushes.{DifferAt, Grows, IsClosedDownstream, IsPushed, Moves, SendsMeanwhile, SendsOncePushed}
use Rattle.fr_ways.specs.Ways.{HasCycle, HasNoCycle, IsPartOf, Sends, ways}

pub cases_differ : (old new : List (List ℕ)) (x : ℕ) → (ways old x ≡ ways new x) ⊎ DifferAt old new x
cases_differ old new x = ⊎_elim
    (λ t. inl ((bytes_decides (ways old x) (ways new x)).0 t))
    (λ f. inr (λ same. false≢true (sym f ∙ (bytes_decides (ways old x) (ways new x)).1 same)))
    (cases_Bool (bytes_eq (ways old x) (ways new x)))

-- what a table sends on, if it has the ways of another
pub sends_as : (table other : List (List ℕ)) (x y : ℕ) → ways table x ≡ ways other x → Sends table x y
    → Sends other x y
sends_as table other x y same sends = subst (λ (ys : List ℕ). Contains ys y) same sends

keeps_or_differs : (old new : List (List ℕ)) (x : ℕ) → ((y : ℕ) → Sends old x y → Sends new x y) ⊎ DifferAt old new x
keeps_or_differs old new x = ⊎_elim (λ same. inl (λ y. sends_as old new x y same)) (λ differs. inr differs)
    (cases_differ old new x)

keeps_back : (old new : List (List ℕ)) (x : ℕ) → ((y : ℕ) → Sends new x y → Sends old x y) ⊎ DifferAt old new x
keeps_back old new x = ⊎_elim (λ same. inl (λ y. sends_as new old x y (sym same))) (λ differs. inr differs)
    (cases_differ old new x)

pub no_new_cycle : (old new : List (List ℕ)) (nodes : List ℕ) (table : List (List ℕ)) (cycle : List ℕ) → HasNoCycle new
    → IsClosedDownstream old new nodes → ((x y : ℕ) → Sends table x y → SendsMeanwhile old new nodes x y)
    → HasCycle table cycle → HasCycle old cycle
no_new_cycle old new nodes table cycle free closed sends is =
    no_cycle_is_new (Sends old) (Sends new) (DifferAt old new) (keeps_or_differs old new) nodes (Sends table)
    (λ x y s. ((sends x y s).pushed, (sends x y s).other)) closed cycle free is

pub pushed_sends : (old new : List (List ℕ)) (nodes : List ℕ) (table : List (List ℕ)) → IsPushed old new nodes table
    → (x y : ℕ) → Sends table x y → SendsOncePushed old new nodes x y
pushed_sends old new nodes table pushed x y sends = record {
  pushed = λ inside. sends_as table new x y (pushed.these x inside) sends;
  other = λ out. sends_as table old x y (pushed.others x out) sends;
}

pub never_cycles : (old new : List (List ℕ)) (nodes : List ℕ) (table part : List (List ℕ)) → HasNoCycle old
    → HasNoCycle new
    → IsClosedDownstream old new nodes → IsPushed old new nodes table → IsPartOf part table → HasNoCycle part
never_cycles old new nodes table part was free closed pushed is cycle has = was cycle
    (no_new_cycle old new nodes part cycle free closed
    (λ x y sends. let one = pushed_sends old new nodes table pushed x y (is x y sends) in
    record { pushed = one.pushed; other = λ out. inl (one.other out) }) has)

pub pushed_right : (old new : List (List ℕ)) (nodes : List ℕ) (table : List (List ℕ)) (x : ℕ) (ys : List ℕ)
    → IsClosedDownstream old new nodes
    → IsPushed old new nodes table → Contains nodes x → IsWalk (Sends table) x ys ↔ IsWalk (Sends new) x ys
pushed_right old new nodes table x ys closed pushed inside = (
  clean_walk (Sends old) (Sends new) (DifferAt old new) (keeps_or_differs old new) nodes (Sends table)
      (λ u v s. let is = pushed_sends old new nodes table pushed u v s in
      (is.pushed, λ out. inl (is.other out))) x ys (closed x inside),
  walk_clean (Sends old) (Sends new) (DifferAt old new) (keeps_back old new) nodes (Sends table)
      (λ u v here. sends_as new table u v (sym (pushed.these u here)))
      (λ u v out. sends_as old table u v (sym (pushed.others u out))) x ys (closed x inside),
)

moves_is : (old new : List (List ℕ)) (pushed : ℕ → List ℕ) (x : ℕ) (ys : List ℕ) → Moves old new pushed x ys
    → IsMove (Sends old) (Sends new) (DifferAt old new) pushed x ys
moves_is old new pushed x [] moves = tt
moves_is old new pushed x (y ∷ ys) moves =
    ((moves.0.pushed, moves.0.other), moves_is old new (λ k. pushed (k + 1)) y ys moves.1)

pub moves_twice : (old new : List (List ℕ)) (pushed : ℕ → List ℕ) (x : ℕ) (ys : List ℕ) (z : ℕ) → HasNoCycle old
    → HasNoCycle new
    → ((k : ℕ) → IsClosedDownstream old new (pushed k)) → Grows pushed → Moves old new pushed x ys
    → count_by (eqb z) (x ∷ ys) ≤ 2
moves_twice old new pushed x ys z was free closed grows moves =
    comes_twice (Sends old) (Sends new) (DifferAt old new)
    (keeps_or_differs old new) pushed x ys z was free closed grows
    (moves_is old new pushed x ys moves)

pub starts_as_old : (old new : List (List ℕ)) → IsPushed old new [] old
starts_as_old old new = record {
  one_length = refl;
  these = λ x found. absurd (Contains-none x found);
  others =
      λ x out. refl;
}

pub push_is_one_more : (old new : List (List ℕ)) (nodes : List ℕ) (table : List (List ℕ)) (x : ℕ)
    → length old ≡ length new → x < length new → IsPushed old new nodes table
    → IsPushed old new (nodes ++ x ∷ []) (set table x (ways new x))
push_is_one_more old new nodes table x same low pushed =
    let inside : x < length table = omega (arith, low, pushed.one_length, same) in
    let there : (y : ℕ) → ¬ (y ≡ x) → ways (set table x (ways new x)) y ≡ ways table y =
    λ y apart. get_or-set_other table x y (ways new x) [] apart in
    record {
      one_length = length-set table x (ways new x) ∙ pushed.one_length;
      these = λ y found. ⊎_elim
          (λ e. subst (λ (z : ℕ). ways (set table x (ways new x)) z ≡ ways new z) (sym e)
          (get_or-set_same table x (ways new x) [] inside))
          (λ apart. ⊎_elim (λ was. there y apart ∙ pushed.these y was) (λ e. absurd (apart (sym e)))
          (Contains-push_cases nodes x y found))
          (cases_eq y x);
      others = λ y out.
          let apart : ¬ (y ≡ x) = λ e. out (subst (Contains (nodes ++ x ∷ [])) (sym e) (Contains-push nodes x)) in
          there y apart ∙ pushed.others y (λ found. out (Contains-append_left nodes (x ∷ []) y found));
    }
