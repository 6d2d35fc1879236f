-- What the worklist holds: one node more, and the neighbours of a node that turns.
use Rattle.std.proofs.Common.{List, [], arith, ap, drop, inl, inr, length, map, refl, slice_index, subst, sym, ℕ, ◌++◌, ◌+◌, ◌-◌, ◌<◌, ◌∙◌, ◌∷◌, ◌≡◌, ◌≤◌}
use Rattle.std.specs.List.{Contains}
use Rattle.std.proofs.lemmas.Bool.{cases_eq, cases_lt}
use Rattle.std.proofs.lemmas.List.{get_or-append-add, get_or-drop, get_or-map, get_or_append_left, get_or_push, length-append, length-drop}
use Rattle.std.proofs.lemmas.List.{length-map, length_push}
use Rattle.std.proofs.lemmas.List.Elements.{All-contains, All-from_get_or, Contains-get_or}
use Rattle.fr_core.proofs.Reaching.{queued_more}
use Rattle.fr_core.proofs.RowLinks.{row_below}
use Rattle.fr_core.proofs.Sinks.{kept_at, sink_from_bounds, sink_meets_bounds}
use Rattle.fr_core.proofs.Turning.{can_turn_below, raised, raised-here, raised-other, turn_lawful}
use Rattle.fr_core.specs.Bounds.{MeetsBounds}
use Rattle.fr_core.specs.Finish.{HoldsAllThatCanTurn}
use Rattle.fr_core.specs.History.{moment_of}
use Rattle.fr_core.specs.Legal.{CanTurn}
use Rattle.fr_core.specs.Reaching.{IsQueued}
use Rattle.fr_core.specs.Worklist.{AreLater, AreNodes, Carries, HoldsAll, IsWorklist}
use Rattle.fr_graph.proofs.Neighbours.{cases_joins, row_of_in, row_of_out}
use Rattle.fr_graph.specs.Counts.{AreLawful}
use Rattle.fr_graph.specs.Links.{IsNet, Joins, Points}
use Rattle.fr_graph.specs.Network.{Network}
use Rattle.fr_graph.specs.Rows.{row}
use Rattle.fr_graph.specs.declared.first.First.{First}
use Rattle.fr_graph.specs.declared.first.First.TheVariants.{Outward}

pub nodes_push : (n : ℕ) (work : List ℕ) (x : ℕ) → x < n → AreNodes n work → AreNodes n (work ++ x ∷ [])
nodes_push n work x l all i m =
    elim (cases_lt i (length work)) [
      | inl less ↦ rw (get_or_append_left work (x ∷ []) 0 i less) (all i less)
      | inr ge ↦ rw (get_or_push work x 0 i (omega (arith, m, length_push work x, ge))) l
    ]

pub queued_push : (work : List ℕ) (x y : ℕ) → IsQueued work y → IsQueued (work ++ x ∷ []) y
queued_push work x y h = queued_more work (work ++ x ∷ []) y (omega (arith, length_push work x)) (λ i l. get_or_append_left work (x ∷ []) 0 i l) h

pub queued_last : (work : List ℕ) (x : ℕ) → IsQueued (work ++ x ∷ []) x
queued_last work x = (length work, omega (arith, length_push work x), get_or_push work x 0 (length work) refl)

abbrev pub neighbours : ℕ → List (ℕ × ℕ) → ℕ → List ℕ
neighbours n first x = map (λ (e : ℕ × First). e.0) (row n first x)

pub nodes_neighbours : (n : ℕ) (first : List (ℕ × ℕ)) (x : ℕ) (work : List ℕ) → AreNodes n work → AreNodes n (work ++ neighbours n first x)
nodes_neighbours n first x work all i m =
    elim (cases_lt i (length work)) [
      | inl less ↦ rw (get_or_append_left work (neighbours n first x) 0 i less) (all i less)
      | inr ge ↦
          let k : ℕ = i - length work in
          let e : i ≡ length work + k = omega (arith, ge) in
          let inside : k < length (row n first x) =
          omega (arith, m, e, length-append work (neighbours n first x), length-map (row n first x) (λ (e : ℕ × First). e.0)) in
          rw (
            e,
            get_or-append-add work (neighbours n first x) k 0,
            get_or-map (λ (e : ℕ × First). e.0) (row n first x) k
                (0, Outward) 0 inside,
          ) (row_below n first x k (0, Outward) inside)
    ]

in_row : (n : ℕ) (first : List (ℕ × ℕ)) (x y : ℕ) → IsNet n first → Joins first x y → IsQueued (neighbours n first x) y
in_row n first x y net (inl h) =
    let r = row_of_out n first x y net h in (
      r.0,
      omega (arith, r.1, length-map (row n first x) (λ (e : ℕ × First). e.0)),
      get_or-map (λ (e : ℕ × First). e.0)
          (row n first x) r.0 (y, Outward) 0 r.1 ∙ ap (λ (e : ℕ × First). e.0) r.2,
    )
in_row n first x y net (inr h) =
    let r = row_of_in n first x y net h in (
      r.0,
      omega (arith, r.1, length-map (row n first x) (λ (e : ℕ × First). e.0)),
      get_or-map (λ (e : ℕ × First). e.0)
          (row n first x) r.0 _ 0 r.1 ∙ ap (λ (e : ℕ × First). e.0) r.2,
    )

-- node x turns
module _ (n d : ℕ) (first : List (ℕ × ℕ)) (net : IsNet n first) (c : List ℕ) (lawful : AreLawful n d first c) (x : ℕ)
    (can : CanTurn n d (moment_of first c) x) where
  abbrev at_net : Network
  at_net = record { nodes = n; links = first }

  after : AreLawful n d first (raised c x)
  after = turn_lawful n d first net c lawful x can

  inside : x < length c
  inside = omega (arith, can_turn_below n d first net (moment_of first c) refl x can, lawful.one_each)

  pub turned_later : AreLater at_net d c (raised c x)
  turned_later = record {
    lawful = after;
    forth = λ y. elim (cases_eq y x) [ inl e ↦ omega (arith, raised-here c x y inside e) | inr ne ↦ omega (arith, raised-other c x y ne) ];
  }

  apart : (u v : ℕ) → Points first u v → ¬ (u ≡ v)
  apart u v h = All-contains (λ (l : ℕ × ℕ). ¬ (l.0 ≡ l.1)) first (u, v) net.no_self h

  -- its links point away from it now
  no_more : ¬ CanTurn n d (moment_of first (raised c x)) x
  no_more again =
      let b = sink_meets_bounds first c lawful.kept x can.sink in
      let a = sink_meets_bounds first (raised c x) after.kept x again.sink in
      let here = raised-here c x x inside refl in
      let w : ℕ = b.linked.0 in
      elim b.linked.1 [
        | inl h ↦
            let there = raised-other c x w (λ e. apart x w h (sym e)) in
            elim (kept_at first c lawful.kept x w h) [
              | inl e ↦ omega (arith, a.along w h, here, there, e)
              | inr e ↦ omega (arith, a.along w h, here, there, e)
            ]
        | inr h ↦
            let there = raised-other c x w (apart w x h) in
            elim (kept_at first c lawful.kept w x h) [
              | inl e ↦ omega (arith, a.against w h, here, there, e)
              | inr e ↦ omega (arith, a.against w h, here, there, e)
            ]
      ]

  -- and a node that is not connected to it has kept its links
  could_before : (y : ℕ) → ¬ (y ≡ x) → ¬ Joins first x y → CanTurn n d (moment_of first (raised c x)) y → CanTurn n d (moment_of first c) y
  could_before y ne apart_from now =
      let a = sink_meets_bounds first (raised c x) after.kept y now.sink in
      let here = raised-other c x y ne in
      let bounds : MeetsBounds first c y = record {
        linked = a.linked;
        along = λ w h. omega (arith, a.along w h, here, raised-other c x w (λ e. apart_from (inr (subst (Points first y) e h))));
        against = λ w h. omega (arith, a.against w h, here, raised-other c x w (λ e. apart_from (inl (subst (λ (z : ℕ). Points first z y) e h))));
      } in
      record {
        not_destination = now.not_destination;
        below_cap = omega (arith, now.below_cap, here);
        sink = sink_from_bounds first c lawful.kept y bounds;
      }

  turned_holds : (work : List ℕ) (at : ℕ) → slice_index work at ≡ x → HoldsAll at_net d c work at → at < length work
      → HoldsAll at_net d (raised c x) (work ++ neighbours n first x) (at + 1)
  turned_holds work at here holds l y now =
      let more : List ℕ = neighbours n first x in
      let whole = length-append work more in
      elim (cases_joins first x y) [
        | inl j ↦
            let q = in_row n first x y net j in
            (length work + q.0, omega (arith, l), omega (arith, whole, q.1), get_or-append-add work more q.0 0 ∙ q.2)
        | inr apart_from ↦ elim (cases_eq y x) [
          | inl e ↦ absurd (no_more (subst (CanTurn n d (moment_of first (raised c x))) e now))
          | inr ne ↦
              let h = holds y (could_before y ne apart_from now) in
              let past : ¬ (h.0 ≡ at) = λ e. ne (sym h.3 ∙ ap (slice_index work) e ∙ here) in
              (h.0, omega (arith, h.1, past), omega (arith, whole, h.2), get_or_append_left work more 0 h.0 h.2 ∙ h.3)
        ]
      ]

  pub turn_carries : (work : List ℕ) → Carries at_net d x c work (raised c x) (work ++ neighbours n first x)
  turn_carries work at l here before = record {
    nodes = nodes_neighbours n first x work before.nodes;
    all = turned_holds work at here before.all l;
  }

-- a node that cannot turn is passed over
pub passed_over : (net : Network) (d : ℕ) (c work : List ℕ) (x : ℕ) → ¬ CanTurn net.nodes d (moment_of net.links c) x → Carries net d x c work c work
passed_over net d c work x cannot at l here before = record {
  nodes = before.nodes;
  all = λ y can.
      let h = before.all y can in
      let past : ¬ (h.0 ≡ at) = λ e. cannot (subst (CanTurn net.nodes d (moment_of net.links c)) (sym h.3 ∙ ap (slice_index work) e ∙ here) can) in
      (h.0, omega (arith, h.1, past), h.2, h.3);
}

-- the nodes of a worklist from a place on hold all that can turn, if the worklist holds all from there on
pub held_among : (net : Network) (d : ℕ) (c work : List ℕ) (at : ℕ) → at ≤ length work
    → IsWorklist net d c work at → HoldsAllThatCanTurn net.nodes d net.links c (drop at work)
held_among net d c work at within is = record {
  nodes = All-from_get_or (λ (y : ℕ). y < net.nodes) (drop at work) 0 (λ i below.
      let here : at + i < length work = omega (arith, below, length-drop at work) in
      subst (λ (y : ℕ). y < net.nodes) (sym (get_or-drop at work i 0)) (is.nodes (at + i) here));
  all = λ x can.
      let h = is.all x can in
      let i : ℕ = h.0 - at in
      let place : at + i ≡ h.0 = omega (arith, h.1) in
      let here : slice_index (drop at work) i ≡ x = get_or-drop at work i 0 ∙ ap (slice_index work) place ∙ h.3 in
      subst (Contains (drop at work)) here (Contains-get_or (drop at work) i 0 (omega (arith, h.1, h.2, length-drop at work)));
}
