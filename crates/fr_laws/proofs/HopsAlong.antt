-- Next hops along links without a closed walk have no loop. A loop along links of two moments.
use Rattle.std.proofs.Common.{◌≡◌, ℕ, ◌<◌, ⊎_elim, List, [], ◌∷◌, ◌++◌, refl, sym, ap, subst, arith, ◌∙◌, zero, suc}
use Rattle.std.proofs.Common.{All, count_by, replicate, slice_index}
use Rattle.std.proofs.lemmas.List.Elements.{All-cons, All-nil}
use Rattle.fr_graph.proofs.Acyclic.{links_at_acyclic, path_falls}
use Rattle.fr_graph.proofs.Members.{Contains-cases, Contains-head, Contains-none}
use Rattle.fr_graph.specs.Counts.{links_at}
use Rattle.fr_graph.specs.Links.{IsAcyclic, IsNet, IsPath, Points, end_of, is_between}
use Rattle.fr_core.proofs.Finishing.{links_at-zeros, zeros_lawful}
use Rattle.fr_core.proofs.Rounds.{links-after_all}
use Rattle.fr_core.proofs.Turning.{run_keeps}
use Rattle.fr_core.specs.History.{Moment, after_all, links_after, moment_of}
use Rattle.fr_core.specs.Legal.{CanTurn}
use Rattle.fr_core.specs.declared.entry.Entry.{Entry}
use Rattle.fr_core.specs.declared.entry.Reply.TheVariants.{Turned}
use Rattle.fr_round.proofs.Standing.{one_history}
use Rattle.fr_tables.proofs.Walks.{sends_one}
use Rattle.fr_tables.specs.Tables.{IsLoopFree, IsWalk}
use Rattle.fr_tables.specs.declared.hop.Hop.{Hop}
use Rattle.fr_tables.specs.declared.hop.Hop.TheVariants.{Here, To}
use Rattle.fr_laws.specs.Hops.{GoesAlong, RoundNeverLoops, RunNeverLoops, SomeLoopOverTime, WentAlong}

-- One moment

end_push : (x : ℕ) (ys : List ℕ) (z : ℕ) → end_of x (ys ++ z ∷ []) ≡ z
end_push x [] z = refl
end_push x (y ∷ ys) z = end_push y ys z

module _ (links : List (ℕ × ℕ)) (table : List Hop) (along : GoesAlong links table) where
  pub walk_path : (x : ℕ) (ys : List ℕ) → IsWalk table x ys → IsPath links x ys
  walk_path x [] goes = tt
  walk_path x (y ∷ ys) goes = (along x y goes.0, walk_path y ys goes.1)

  -- a loop is a closed walk along the links
  loop_closes : IsAcyclic links → (x : ℕ) (xs : List ℕ) → ¬ IsWalk table x (xs ++ x ∷ [])
  loop_closes acyclic x [] goes = acyclic x (x ∷ []) (walk_path x (x ∷ []) goes, refl)
  loop_closes acyclic x (y ∷ ys) goes =
      acyclic x (y ∷ (ys ++ x ∷ [])) (walk_path x (y ∷ (ys ++ x ∷ [])) goes, end_push y ys x)

  pub never_loops : IsAcyclic links → IsLoopFree table
  never_loops acyclic [] none = none
  never_loops acyclic (x ∷ xs) goes = loop_closes acyclic x xs goes

pub round_never_loops : RoundNeverLoops
round_never_loops b s table rule along =
    let behind = one_history b s rule in
    never_loops (links_at b.links s.words) table along behind.run.acyclic

pub run_never_loops : RunNeverLoops
run_never_loops n d first h table net run along =
    let start : Moment = moment_of first (replicate n 0) in
    let at = run_keeps n d first net start (record { links = refl; lawful = zeros_lawful n d first }) h run in
    let same : (after_all start h).links ≡ links_after first h =
    links-after_all start h ∙ ap (λ (links : List (ℕ × ℕ)). links_after links h) (links_at-zeros n first) in
    let given : links_after first h ≡ links_at first (after_all start h).counts = sym same ∙ at.links in
    never_loops (links_after first h) table along
    (subst IsAcyclic (sym given) (links_at_acyclic first (after_all start h).counts net.acyclic))

-- Two moments: before the turn of node 1 its link points to it, and after the turn away from it

pub falling_acyclic : (links : List (ℕ × ℕ)) (heights : List ℕ)
    → ((u v : ℕ) → Points links u v → slice_index heights v < slice_index heights u) → IsAcyclic links
falling_acyclic links heights falls u [] none = none
falling_acyclic links heights falls u (v ∷ vs) (path, back) =
    let least = path_falls links heights (λ x y h. omega (arith, falls x y h)) v vs path.1 in
    omega (arith, falls u v path.0, least, ap (slice_index heights) back)

abbrev two_links : List (ℕ × ℕ)
two_links = (0, 1) ∷ (2, 0) ∷ []

abbrev one_turn : List Entry
one_turn = record { worker = 0; node = 1; reply = Turned 1 } ∷ []

abbrev two_hops : List Hop
two_hops = To 1 ∷ To 0 ∷ Here ∷ []

two_fall : (u v : ℕ) → Points two_links u v → slice_index (1 ∷ 0 ∷ 2 ∷ []) v < slice_index (1 ∷ 0 ∷ 2 ∷ []) u
two_fall u v h = ⊎_elim
    (λ e. at (0, 1) e (omega arith))
    (λ later. ⊎_elim
    (λ e. at (2, 0) e (omega arith))
    (λ none. absurd (Contains-none (u, v) none))
    (Contains-cases (u, v) (2, 0) [] later))
    (Contains-cases (u, v) (0, 1) ((2, 0) ∷ []) h)
  where
    at : (l : ℕ × ℕ) → l ≡ (u, v) → slice_index (1 ∷ 0 ∷ 2 ∷ []) l.1 < slice_index (1 ∷ 0 ∷ 2 ∷ []) l.0
        → slice_index (1 ∷ 0 ∷ 2 ∷ []) v < slice_index (1 ∷ 0 ∷ 2 ∷ []) u
    at l e = subst (λ (k : ℕ × ℕ). slice_index (1 ∷ 0 ∷ 2 ∷ []) k.1 < slice_index (1 ∷ 0 ∷ 2 ∷ []) k.0) e

-- what holds of both links
all_two : (P : ℕ × ℕ → Type 0) → P (0, 1) → P (2, 0) → All P two_links
all_two P one other = All-cons P (0, 1) ((2, 0) ∷ []) one (All-cons P (2, 0) [] other (All-nil P))

two_net : IsNet 3 two_links
two_net = record {
  in_range = all_two (λ (l : ℕ × ℕ). (l.0 < 3) × (l.1 < 3)) (omega arith, omega arith) (omega arith, omega arith);
  no_self = all_two (λ (l : ℕ × ℕ). ¬ (l.0 ≡ l.1)) (λ e. omega (arith, e)) (λ e. omega (arith, e));
  single = all_two (λ (l : ℕ × ℕ). count_by (is_between l.0 l.1) two_links ≡ 1) refl refl;
  acyclic = falling_acyclic two_links (1 ∷ 0 ∷ 2 ∷ []) two_fall;
}

two_can_turn : CanTurn 3 2 (moment_of two_links (replicate 3 0)) 1
two_can_turn = record {
  not_destination = λ e. omega (arith, e);
  below_cap = omega arith;
  sink = (
    (0, Contains-head (0, 1) ((2, 0) ∷ [])),
    λ w h. ⊎_elim (λ e. out 0 1 w e (omega arith))
        (λ h. ⊎_elim (λ e. out 2 0 w e (omega arith)) (λ h. Contains-none (1, w) h) (Contains-cases (1, w) (2, 0) [] h))
        (Contains-cases (1, w) (0, 1) ((2, 0) ∷ []) h),
  );
}
  where
    out : (u v w : ℕ) → ◌≡◌ {A = ℕ × ℕ} (u, v) (1, w) → ¬ (u ≡ 1) → ⊥
    out u v w e apart = apart (ap (λ (l : ℕ × ℕ). l.0) e)

two_went : WentAlong two_links one_turn two_hops
two_went zero y sends =
    let same = sends_one two_hops 0 1 y refl sends in
    (0, subst (λ (z : ℕ). Points two_links 0 z) same (Contains-head (0, 1) ((2, 0) ∷ [])))
two_went (suc zero) y sends =
    let same = sends_one two_hops 1 0 y refl sends in
    (1, subst (λ (z : ℕ). Points ((1, 0) ∷ (2, 0) ∷ []) 1 z) same (Contains-head (1, 0) ((2, 0) ∷ [])))
two_went (suc (suc zero)) y sends = absurd cc
two_went (suc (suc (suc x))) y sends = absurd cc

pub some_loop_over_time : SomeLoopOverTime
some_loop_over_time = (
  3,
  2,
  two_links,
  one_turn,
  two_hops,
  record {
    net = two_net;
    in_range = omega arith;
    run = ((omega arith, (two_can_turn, refl)), tt);
    went = two_went;
    loops = λ free. free (0 ∷ 1 ∷ []) (refl, (refl, tt));
  },
)
