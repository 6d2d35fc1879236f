-- Hops of a set that is closed downstream are pushed: the law of such sets at tables of hops, and which routes stay.
use Rattle.std.proofs.Common.{Contains, List, Some, [], eqb, inl, inr, slice_get, sym, ℕ, ⊎_elim}
use Rattle.std.proofs.Common.{◌+◌, ◌∙◌, ◌∷◌, ◌≡◌, ◌≤◌, ◌↔◌, ◌⊎◌}
use Rattle.std.specs.List.{count_by}
use Rattle.fr_tables.specs.Pushes.{AreRoutedFirst, DifferAt, Grows, IsClosedDownstream, IsPushed, Moves}
use Rattle.fr_tables.specs.Tables.{Arrives, IsLoop, IsLoopFree, IsWalk, SendsOn, end_of}
use Rattle.fr_tables.specs.declared.hop.Hop.{Hop}
use Rattle.fr_tables.specs.declared.hop.Hop.TheVariants.{Here}
use Rattle.fr_tables.proofs.Arriving.{alike_downstream, arrives_before}
use Rattle.fr_tables.proofs.ClosedSets.{IsClean, IsMove, Pushed, clean_walk, no_cycle_is_new, walk_clean}
use Rattle.fr_tables.proofs.ClosedSets as law
use Rattle.fr_tables.proofs.Counts.{cases_differ}
use Rattle.fr_tables.proofs.Members.{cases_member}
use Rattle.fr_tables.proofs.Relations.{here_downstream, next_downstream}

keeps_or_differs : (old new : List Hop) (x : ℕ) → ((y : ℕ) → SendsOn old x y → SendsOn new x y) ⊎ DifferAt old new x
keeps_or_differs old new x = ⊎_elim (λ same. inl (λ y sends. sym same ∙ sends)) (λ differs. inr differs)
    (cases_differ old new x)

keeps_back : (old new : List Hop) (x : ℕ) → ((y : ℕ) → SendsOn new x y → SendsOn old x y) ⊎ DifferAt old new x
keeps_back old new x = ⊎_elim (λ same. inl (λ y sends. same ∙ sends)) (λ differs. inr differs) (cases_differ old new x)

module _ (old new : List Hop) (nodes : List ℕ) (table : List Hop) (pushed : IsPushed old new nodes table) where
  -- a clean node has its hop of the new table
  clean_here : (x : ℕ) → IsClean (SendsOn new) (DifferAt old new) nodes x → slice_get table x ≡ slice_get new x
  clean_here x clean = ⊎_elim (pushed.these x)
      (λ out. ⊎_elim
      (λ same. pushed.others x out ∙ same)
      (λ differs. absurd (out (clean x (here_downstream (SendsOn new) x) differs)))
      (cases_differ old new x))
      (cases_member nodes x)

  pushed_sends : (x y : ℕ) → SendsOn table x y → Pushed (SendsOn old) (SendsOn new) (DifferAt old new) nodes x y
  pushed_sends x y sends = (λ here. sym (pushed.these x here) ∙ sends, λ out. inl (sym (pushed.others x out) ∙ sends))

  module _ (closed : IsClosedDownstream old new nodes) where
    pub no_loop_is_new : (loop : List ℕ) → IsLoopFree new → IsLoop table loop → IsLoop old loop
    no_loop_is_new = no_cycle_is_new (SendsOn old) (SendsOn new) (DifferAt old new) (keeps_or_differs old new) nodes
        (SendsOn table)
        pushed_sends (λ x here y. closed x y here)

    pub pushed_right : (x : ℕ) (ys : List ℕ) → Contains nodes x → IsWalk table x ys ↔ IsWalk new x ys
    pushed_right x ys here = (
      clean_walk (SendsOn old) (SendsOn new) (DifferAt old new) (keeps_or_differs old new) nodes
          (SendsOn table) pushed_sends x ys
          (λ y. closed x y here),
      walk_clean (SendsOn old) (SendsOn new) (DifferAt old new) (keeps_back old new) nodes (SendsOn table)
          (λ u v in_nodes sends. pushed.these u in_nodes ∙ sends) (λ u v out sends. pushed.others u out ∙ sends) x ys
          (λ y. closed x y here),
    )

    -- a pushed node with a route in the new table has it in the mixed table
    clean_arrives : (x : ℕ) (ys : List ℕ) → IsClean (SendsOn new) (DifferAt old new) nodes x → IsWalk new x ys
        → slice_get new (end_of x ys) ≡ Some Here → Arrives table x
    clean_arrives x [] clean goes home = record { by = []; goes = tt; home = clean_here x clean ∙ home }
    clean_arrives x (y ∷ ys) clean goes home = arrives_before table x y (clean_here x clean ∙ goes.0)
        (clean_arrives y ys (λ z down. clean z (next_downstream (SendsOn new) x y z goes.0 down)) goes.1 home)

    -- a node keeps its route if the pushed nodes that it meets have one
    pub still_arrives : (x : ℕ) → ((y : ℕ) → Contains nodes y → Arrives new y) → Arrives old x → Arrives table x
    still_arrives x routes had = go x had.by had.goes had.home
      where
        inside_arrives : (x : ℕ) → Contains nodes x → Arrives table x
        inside_arrives x inside = let route = routes x inside in
            clean_arrives x route.by (λ z. closed x z inside) route.goes route.home

        go : (x : ℕ) (ys : List ℕ) → IsWalk old x ys → slice_get old (end_of x ys) ≡ Some Here → Arrives table x
        go x [] goes home = ⊎_elim (inside_arrives x)
            (λ out. record { by = []; goes = tt; home = pushed.others x out ∙ home })
            (cases_member nodes x)
        go x (y ∷ ys) goes home = ⊎_elim (inside_arrives x)
            (λ out. arrives_before table x y (pushed.others x out ∙ goes.0) (go y ys goes.1 home))
            (cases_member nodes x)

    -- if all nodes that get a route have been pushed, a node with a route has that of the new table
    pub keeps_routes : (x : ℕ) → AreRoutedFirst old new nodes → Arrives old x → Arrives new x → Arrives table x
    keeps_routes x first had has = ⊎_elim
        (λ routes. still_arrives x routes had)
        (λ all. clean_arrives x has.by (λ y down differs. all y differs
        ((alike_downstream new x y down).0 has)) has.goes has.home)
        first

moves_is : (old new : List Hop) (pushed : ℕ → List ℕ) (x : ℕ) (ys : List ℕ) → Moves old new pushed x ys
    → IsMove (SendsOn old) (SendsOn new) (DifferAt old new) pushed x ys
moves_is old new pushed x [] moves = tt
moves_is old new pushed x (y ∷ ys) moves =
    ((moves.0.pushed, λ out. inl (moves.0.other out)), moves_is old new (λ k. pushed (k + 1)) y ys moves.1)

pub comes_twice : (old new : List Hop) (pushed : ℕ → List ℕ) (x : ℕ) (ys : List ℕ) (z : ℕ) → IsLoopFree old
    → IsLoopFree new
    → ((k : ℕ) → IsClosedDownstream old new (pushed k))
    → Grows pushed → Moves old new pushed x ys → count_by (eqb z) (x ∷ ys) ≤ 2
comes_twice old new pushed x ys z was free closed grows moves =
    law.comes_twice (SendsOn old) (SendsOn new) (DifferAt old new) (keeps_or_differs old new) pushed x ys z was free
    (λ k u here v. closed k u v here) grows (moves_is old new pushed x ys moves)
