-- A chain whose links all point away from the destination: node x turns x times.
use Rattle.std.proofs.Common.{List, [], add-one, ap, arith, count_by, false, inl, inr, map, ne_eqb, refl, replicate}
use Rattle.std.proofs.Common.{slice_index, subst, sum, suc, sym, zero, zero-add, ℕ, ⊎_elim, ◌*◌, ◌+◌, ◌++◌, ◌<◌}
use Rattle.std.proofs.Common.{◌==◌, ◌↔◌, ◌∙◌, ◌∷◌, ◌≡◌, ◌≤◌, IsTrue}
use Rattle.std.proofs.lemmas.Bool.{cases_Bool, cases_eq}
use Rattle.std.proofs.lemmas.Bool.Decides.{Decides-eqb, Decides-not}
use Rattle.std.proofs.lemmas.List.FromFn.{get_or-map-range_with_len, length-map-range_with_len}
use Rattle.std.proofs.lemmas.List.FromFn.{sum_by-map-range_with_len_more}
use Rattle.std.proofs.lemmas.List.Folds.{sum_by-replicate}
use Rattle.std.proofs.lemmas.List.Sums.{sum_by-cons}
use Rattle.std.specs.List.{range_with_len}
use Rattle.fr_core.proofs.Away.{Climbs, walk_climbs}
use Rattle.fr_core.proofs.Finishing.{zeros_lawful}
use Rattle.fr_core.proofs.SettledRuns.{run_to_settled}
use Rattle.fr_core.proofs.Settling.{cases_linked, walk_along}
use Rattle.fr_core.proofs.Turning.{All-from_Contains}
use Rattle.fr_core.specs.History.{turn_count}
use Rattle.fr_core.specs.Settled.{AreSettled, IsSettledCount}
use Rattle.fr_core.specs.Walks.{HasUndirectedWalk, IsLeastAway}
use Rattle.fr_graph.proofs.Counting.{count-range_more, weigh}
use Rattle.fr_graph.proofs.Linking.{is_between_itself, joined_from}
use Rattle.fr_graph.proofs.Members.{Contains-cases, Contains-head, Contains-none, Contains-tail}
use Rattle.fr_graph.specs.Links.{IsAcyclic, IsAlone, IsNet, IsPath, Points, end_of, is_between}
use Rattle.fr_core.proofs.Gaps.{is_some, triangle, weight}
use Rattle.fr_core.proofs.Totals.{none_stranded}
use Rattle.fr_core.specs.Work.{AreCounted, IsBad, IsConnectedNet, TriangleIsMet}

-- b links in a row, away from node 0
chain : ℕ → List (ℕ × ℕ)
chain zero = []
chain (suc b) = (b, suc b) ∷ chain b

-- a link of the chain leads to the next node
from_chain : (b u v : ℕ) → Points (chain b) u v → (v ≡ suc u) × (u < b)
unfolding chain
from_chain zero u v h = absurd (Contains-none (u, v) h)
from_chain (suc b) u v h = ⊎_elim
    (λ e.
    let tail : b ≡ u = ap (λ (l : ℕ × ℕ). l.0) e in
    let head : suc b ≡ v = ap (λ (l : ℕ × ℕ). l.1) e in
    (omega (arith, tail, head), omega (arith, tail)))
    (λ g. let rest = from_chain b u v g in (rest.0, omega (arith, rest.1)))
    (Contains-cases (u, v) (b, suc b) (chain b) h)

in_chain : (b u : ℕ) → u < b → Points (chain b) u (suc u)
unfolding chain
in_chain zero u l = absurd (omega arith)
in_chain (suc b) u l = ⊎_elim
    (λ e. subst (λ (z : ℕ). Points ((b, suc b) ∷ chain b) z (suc z)) (sym e) (Contains-head (b, suc b) (chain b)))
    (λ ne. Contains-tail (u, suc u) (b, suc b) (chain b) (in_chain b u (omega arith)))
    (cases_eq u b)

-- each link stands once
not_between : (b u : ℕ) → ¬ (b ≡ u) → is_between u (suc u) (b, suc b) ≡ false
not_between b u ne = ⊎_elim
    (λ yes.
    let ends = joined_from u (suc u) (b, suc b) yes in
    ⊎_elim (λ t. absurd (ne t.0)) (λ t. absurd (omega (arith, t.0, t.1))) ends)
    (λ no. no)
    (cases_Bool (is_between u (suc u) (b, suc b)))

times : ℕ → ℕ → ℕ
times b u = count_by (is_between u (suc u)) (chain b)

times_more : (b u : ℕ) → times (suc b) u ≡ weigh (is_between u (suc u) (b, suc b)) + times b u
unfolding times chain
times_more b u = sum_by-cons (λ (l : ℕ × ℕ). weigh (is_between u (suc u) l)) (b, suc b) (chain b)

times_apart : (b u : ℕ) → ¬ (b ≡ u) → times (suc b) u ≡ times b u
times_apart b u ne =
    let none : weigh (is_between u (suc u) (b, suc b)) ≡ 0 = ap weigh (not_between b u ne) in
    omega (arith, times_more b u, none)

never_past : (b u : ℕ) → b ≤ u → times b u ≡ 0
unfolding times chain
never_past zero u l = refl
never_past (suc b) u l = omega (arith, times_apart b u (λ e. omega (arith, e)), never_past b u (omega arith))

once_within : (b u : ℕ) → u < b → times b u ≡ 1
once_within zero u l = absurd (omega arith)
once_within (suc b) u l = ⊎_elim
    (λ e.
    let one : weigh (is_between u (suc u) (u, suc u)) ≡ 1 = ap weigh (is_between_itself (u, suc u)) in
    let here : weigh (is_between u (suc u) (b, suc b)) ≡ weigh (is_between u (suc u) (u, suc u)) =
    ap (λ (z : ℕ). weigh (is_between u (suc u) (z, suc z))) e in
    omega (arith, times_more b u, one, here, never_past b u (omega (arith, e))))
    (λ ne. omega (arith, times_apart b u ne, once_within b u (omega (arith, ne))))
    (cases_eq b u)

chain_single : (b u v : ℕ) → Points (chain b) u v → count_by (is_between u v) (chain b) ≡ 1
unfolding times
chain_single b u v h =
    let from = from_chain b u v h in
    subst (λ (z : ℕ). count_by (is_between u z) (chain b) ≡ 1) (sym from.0) (once_within b u from.1)

-- paths along the chain rise
path_rises : (b u : ℕ) (vs : List ℕ) → IsPath (chain b) u vs → u ≤ end_of u vs
path_rises b u [] path = omega arith
path_rises b u (v ∷ vs) path = omega (arith, (from_chain b u v path.0).0, path_rises b v vs path.1)

chain_acyclic : (b : ℕ) → IsAcyclic (chain b)
chain_acyclic b u [] h = h
chain_acyclic b u (v ∷ vs) h = omega (arith, (from_chain b u v h.0.0).0, path_rises b v vs h.0.1, h.1)

chain_net : (b : ℕ) → IsNet (b + 1) (chain b)
chain_net b = record {
  in_range = All-from_Contains (λ (l : ℕ × ℕ). (l.0 < b + 1) × (l.1 < b + 1)) (chain b)
      (λ l h. let from = from_chain b l.0 l.1 h in (omega (arith, from.1), omega (arith, from.0, from.1)));
  no_self = All-from_Contains (λ (l : ℕ × ℕ). ¬ (l.0 ≡ l.1)) (chain b)
      (λ l h e. omega (arith, (from_chain b l.0 l.1 h).0, e));
  single = All-from_Contains (λ (l : ℕ × ℕ). count_by (is_between l.0 l.1) (chain b) ≡ 1) (chain b)
      (λ l h. chain_single b l.0 l.1 h);
  acyclic = chain_acyclic b;
}

-- the walk along the chain to node x takes x steps
chain_walk : (b x : ℕ) → x ≤ b → HasUndirectedWalk (chain b) 0 x x
chain_walk b zero l = ([], (refl, refl))
chain_walk b (suc x) l =
    let w = chain_walk b x (omega arith) in
    (w.0 ++ suc x ∷ [], rw add-one at (walk_along (chain b) 0 w.0 x x (suc x) w.1 (in_chain b x (omega arith))))

chain_connected : (b : ℕ) → IsConnectedNet (b + 1) 0 (chain b)
chain_connected b = record {
  is_net = chain_net b;
  dest = omega arith;
  joined = λ x l. (x, chain_walk b x (omega (arith, l)));
}

-- the settled counts 0, 1, .., b
levels : ℕ → List ℕ
levels b = map (λ (x : ℕ). x) (range_with_len 0 (b + 1))

level_at : (b x : ℕ) → x ≤ b → slice_index (levels b) x ≡ x
unfolding levels
level_at b x l = get_or-map-range_with_len (λ (y : ℕ). y) 0 (b + 1) x x 0 (omega arith) (zero-add x)

-- at the ends of a link of the chain
level_ends : (b u v : ℕ) → Points (chain b) u v → slice_index (levels b) v ≡ slice_index (levels b) u + 1
level_ends b u v h =
    let from = from_chain b u v h in
    let below = level_at b u (omega (arith, from.1)) in
    let above = level_at b v (omega (arith, from.0, from.1)) in
    omega (arith, from.0, below, above)

levels_climb : (b : ℕ) → Climbs (chain b) (levels b)
levels_climb b = record {
  along = λ u v h. omega (arith, level_ends b u v h);
  against = λ u v h. omega (arith, level_ends b v u h);
}

chain_least : (b x : ℕ) → x ≤ b → IsLeastAway (chain b) 0 x x
chain_least b x l = record {
  reached = chain_walk b x l;
  least = λ away w. omega (
    arith,
    level_at b x l,
    level_at b 0 (omega arith),
    walk_climbs (chain b) (levels b) (levels_climb b) 0 w.0 away x w.1,
  );
}

chain_alone : (b x : ℕ) → x ≤ b → IsAlone (chain b) x → x ≡ 0
chain_alone b zero l alone = refl
chain_alone b (suc x) l alone = absurd (alone x (inr (in_chain b x (omega arith))))

chain_count : (b x : ℕ) → x ≤ b → IsSettledCount (b + 1) 0 (chain b) x x
chain_count b x l = ⊎_elim
    (λ linked. inr (inl ((λ alone. alone linked.0 linked.1), chain_least b x l)))
    (λ alone. inl (alone, chain_alone b x l alone))
    (cases_linked (chain b) x)

chain_settled : (b : ℕ) → AreSettled (b + 1) 0 (chain b) (levels b)
unfolding levels
chain_settled b = record {
  one_each = length-map-range_with_len (λ (y : ℕ). y) 0 (b + 1);
  settled = λ x l.
      let low : x ≤ b = omega (arith, l) in
      subst (IsSettledCount (b + 1) 0 (chain b) x) (sym (level_at b x low)) (chain_count b x low);
}

-- all nodes but node 0 are bad
bad_there : (b x : ℕ) → x < b + 1 → IsTrue (is_some x) ↔ IsBad 0 (chain b) x
bad_there b x l =
    let decides = Decides-not (x == 0) (Decides-eqb x 0) in (
      λ e. (
        (x, chain_walk b x (omega (arith, l))),
        λ path. decides.0 e (omega (arith, path_rises b x path.0 path.1.0, path.1.1)),
      ),
      λ bad. decides.1 (λ e. bad.1 ([], (tt, e))),
    )

bad_number : (b : ℕ) → b ≡ count_by is_some (range_with_len 0 (b + 1))
bad_number zero = refl
bad_number (suc b) =
    let one : weight (suc b) ≡ 1 = rw (ne_eqb (suc b) 0 (λ e. omega (arith, e))) refl in
    let many : ℕ → ℕ = λ k. count_by is_some (range_with_len 0 k) in
    let more : many (suc b + 1) ≡ many (suc b) + weight (suc b) =
    count-range_more is_some (suc b) in
    let rest : b ≡ count_by is_some (range_with_len 0 (suc b)) = rw add-one at (bad_number b) in
    omega (arith, one, more, rest)

chain_counted : (b : ℕ) → AreCounted (b + 1) 0 (chain b) b 0
chain_counted b = record {
  bad = record { test = is_some; just = bad_there b; number = bad_number b };
  stranded = none_stranded (b + 1) 0 (chain b) (chain_connected b);
}

abbrev same : ℕ → ℕ
same x = x

sum_up_to : (b : ℕ) → 2 * sum (map same (range_with_len 0 (suc b))) ≡ b * (b + 1)
sum_up_to zero = refl
sum_up_to (suc b) =
    let more : sum (map same (range_with_len 0 (suc (suc b)))) ≡ sum (map same (range_with_len 0 (suc b))) + suc b =
    rw add-one at (sum_by-map-range_with_len_more same same 0 (suc b) (suc b) (zero-add (suc b))) in
    omega (arith, more, sum_up_to b, triangle b)

levels_sum : (b : ℕ) → 2 * sum (levels b) ≡ b * (b + 1)
unfolding levels
levels_sum b = ap (λ (k : ℕ). 2 * sum (map same (range_with_len 0 k))) (add-one b) ∙ sum_up_to b

zeros_sum : (n : ℕ) → sum (replicate n 0) ≡ 0
zeros_sum n = omega (arith, sum_by-replicate (λ (y : ℕ). y) n 0)

pub chain_meets : TriangleIsMet
chain_meets = λ b.
    let zeros : List ℕ = replicate (b + 1) 0 in
    let lawful = zeros_lawful (b + 1) 0 (chain b) in
    let net = chain_net b in
    let f = (run_to_settled (b + 1) 0 (chain b) zeros (levels b) net (omega arith) lawful (chain_settled b)).1 in
    let made : turn_count f.entries ≡ sum (levels b) = omega (arith, f.turns_alone, f.long, zeros_sum (b + 1)) in
    (chain b, f.entries, chain_connected b, chain_counted b, f.run, omega (arith, made, levels_sum b))
