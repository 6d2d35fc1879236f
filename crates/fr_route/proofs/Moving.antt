-- Which nodes can be sinks after edits are made or the destination moves, and where the others send on to. The others
-- are not touched, and the last round left each of them that has links with a way home.
use Rattle.std.proofs.Common.{List, arith, inl, inr, refl, ◌≢◌, slice_index, subst, sym, ℕ, ⊎_elim, ◌<◌, ◌∙◌, ◌∷◌, ◌≡◌}
use Rattle.std.proofs.Common.{◌⊎◌, Contains}
use Rattle.std.specs.List.{All}
use Rattle.std.proofs.lemmas.Bool.{cases_eq}
use Rattle.std.proofs.lemmas.List.Elements.{All-append, All-cons, All-contains, Contains-append_left}
use Rattle.std.proofs.lemmas.List.Elements.{Contains-append_right}
use Rattle.fr_graph.specs.Batches.{AreMade}
use Rattle.fr_graph.specs.Links.{IsNet, Joins, Points}
use Rattle.fr_graph.specs.Network.{Network, net_of}
use Rattle.fr_graph.specs.Turn.{IsSink}
use Rattle.fr_graph.specs.declared.edit.Edit.{Edit}
use Rattle.fr_graph.proofs.Giving.{Points-links_at_from, Points-links_at_same, Points-links_at_turned}
use Rattle.fr_graph.proofs.TurnedLinks.{length-links_at}
use Rattle.std.proofs.lemmas.List.Sorted.{length_permutation}
use Rattle.fr_graph.proofs.Members.{Contains-head, Contains-tail, cases_some}
use Rattle.fr_graph.specs.Counts.{IsKept, links_at}
use Rattle.fr_graph.proofs.Ordering.{in_order_permutes, into_order, out_of_order}
use Rattle.fr_crew.specs.Settlements.{HoldsSinks, IsCounted}
use Rattle.fr_nearest.specs.Distances.{AreDistances, IsRenewed, Measured}
use Rattle.fr_nearest.specs.LinkChanges.{HadLinks, HasEndsBelow, IsAdded, IsCut}
use Rattle.fr_route.specs.NodeWays.{AreOldDistances, HasDistances, HasTurnedEnd}
use Rattle.fr_route.specs.Ends.{ends_of}
use Rattle.fr_route.specs.Outcomes.{HoldsMoved, IsStale, cut_off_nodes, movable, settled_state, touched}
use Rattle.fr_route.specs.Routes.{AreHops, IsHop}
use Rattle.fr_route.specs.States.{IsAfterRound, IsRound, State, net_at}
use Rattle.fr_route.specs.WayNotes.{IsBegun, LeadsOn}
use Rattle.fr_route.specs.declared.way_notes.WayNotes.{WayNotes}
use Rattle.fr_tables.specs.declared.hop.Hop.{Hop}
use Rattle.fr_tables.specs.declared.hop.Hop.TheVariants.{CutOff, Here, To}
use Rattle.fr_route.proofs.Changing.{made_nodes}
use Rattle.fr_route.proofs.CutNodes.{capped_cut, cut_below, ended}
use Rattle.fr_route.proofs.RoundEnds.{hop_leads_on, lawful, linked_joined, linked_out, round_joined, round_joins}
use Rattle.fr_route.proofs.RoundEnds.{round_net, still_cut_off}
use Rattle.fr_route.proofs.Touched.{AreAt, HaveSameAt, edits_at, edits_keep, ends_below}

here : (s : State) → IsAfterRound s → IsNet s.nodes s.links
here s after = round_net s.nodes s.dest after.first s after.is_net after.dest after.round

-- edits of the network after a round make a network
pub made_net : (s : State) (edits : List Edit) (net : Network) → IsAfterRound s → AreMade (net_at s) edits net
    → IsNet net.nodes net.links
made_net s edits net after made =
    let left : AreAt (net_at s) edits net = edits_at (net_at s) edits net (here s after) made in left.is_net

module _ (s : State) (after : IsAfterRound s) where
  -- a node with links that do not change has a link that points away from it, unless it was cut off or is the
  -- destination
  no_sink : (links : List (ℕ × ℕ)) (x : ℕ) → HaveSameAt s.links links x → ¬ (x ≡ s.dest)
      → ¬ (slice_index s.counts x ≡ s.nodes) → ¬ IsSink links x
  no_sink links x same apart free sink =
      let joins : Joins s.links x sink.0.0 = inr ((same.into sink.0.0).1 sink.0.1) in
      let out =
      linked_out s.nodes s.dest after.first s after.is_net after.dest after.round x sink.0.0 joins free apart in
      sink.1 out.0 ((same.out out.0).0 out.1)

  module _ (edits : List Edit) (net : Network) (d : ℕ) (below : d < s.nodes) (made : AreMade (net_at s) edits net) where
    left : AreAt (net_at s) edits net
    left = edits_at (net_at s) edits net (here s after) made

    same_nodes : net.nodes ≡ s.nodes
    same_nodes = made_nodes (net_at s) edits net made

    -- a node that is not touched is not a destination, and its links do not change
    untouched : (x : ℕ) → ¬ Contains (touched s d edits) x
        → (¬ (x ≡ s.dest)) × (¬ (x ≡ d)) × HaveSameAt s.links net.links x
    untouched x none = (
      (λ e. none (subst (Contains (touched s d edits)) (sym e) (Contains-head s.dest (d ∷ ends_of edits)))),
      (λ e. none (subst (Contains (touched s d edits)) (sym e) (Contains-tail d s.dest (d
          ∷ ends_of edits) (Contains-head d (ends_of edits))))),
      edits_keep (net_at s) edits net x left
          (λ h. none (Contains-tail x s.dest (d ∷ ends_of edits) (Contains-tail x d (ends_of edits) h))),
    )

    -- a node that cannot move is not touched, and was not cut off with links
    unmoved : (x : ℕ) → ¬ Contains (movable s d edits) x
        → (¬ Contains (touched s d edits) x) × ¬ (slice_index s.counts x ≡ s.nodes)
    unmoved x none = (
      (λ h. none (Contains-append_left (touched s d edits) (cut_off_nodes s) x h)),
      (λ e. none (Contains-append_right (touched s d edits) (cut_off_nodes s) x (capped_cut s after x e))),
    )

    movable_below : All (λ (x : ℕ). x < net.nodes) (movable s d edits)
    movable_below = subst (λ (n : ℕ). All (λ (x : ℕ). x < n) (movable s d edits)) (sym same_nodes)
        (All-append (λ (x : ℕ). x < s.nodes) (touched s d edits) (cut_off_nodes s)
        (All-cons (λ (x : ℕ). x < s.nodes) s.dest (d
        ∷ ends_of edits) after.dest (All-cons (λ (x : ℕ). x
        < s.nodes) d (ends_of edits) below (ends_below s.nodes edits left.below)))
        (cut_below s after))

    -- each sink can move
    pub movable_sinks : HoldsSinks net d (movable s d edits)
    movable_sinks = record {
      nodes = movable_below;
      sinks = λ x sink apart. ⊎_elim
          (λ some. subst (Contains (movable s d edits)) some.2 some.1)
          (λ none.
          let un = unmoved x (λ h. none x h refl) in
          let not = untouched x un.0 in
          absurd (no_sink net.links x not.2 not.0 un.1 sink))
          (cases_some (λ (y : ℕ). y ≡ x) (λ y. cases_eq y x) (movable s d edits));
    }

    module _ (counts : List ℕ) (counted : IsCounted net.nodes d net.links counts) where
      round : IsRound net.nodes d net.links (settled_state net d counts)
      round = ended net d counts left.is_net counted

      -- a node that has not turned keeps its links that point away from it to nodes that have not turned
      still_away : (x y : ℕ) → slice_index counts x ≡ 0 → slice_index counts y ≡ 0 → Points net.links x y
          → Points (settled_state net d counts).links x y
      still_away x y rests stays h =
          into_order (links_at net.links counts) (x, y) (Points-links_at_same net.links counts x y h (stays
          ∙ sym rests))

      -- it gets no other link that points away from it
      was_away : (x y : ℕ) → slice_index counts x ≡ 0 → Points (settled_state net d counts).links x y
          → Points net.links x y
      was_away x y rests h = ⊎_elim (λ p. p.0) (λ p. absurd (omega (arith, rests, p.1)))
          (Points-links_at_from net.links counts x y (out_of_order (links_at net.links counts) (x, y) h))

      -- so if its links did not change in the edits, and it was not cut off with links, it sends on to the same node,
      -- unless that node has turned, or is or was the destination
      hop_stands : (x : ℕ) (hop : Hop) → HaveSameAt s.links net.links x → ¬ (x ≡ s.dest) → ¬ (x ≡ d)
          → ¬ (slice_index s.counts x ≡ s.nodes) → ¬ IsStale (settled_state net d counts) x hop
          → slice_index counts x ≡ 0
          → IsHop s x hop → IsHop (settled_state net d counts) x hop
      hop_stands x Here same was becomes free fresh rests h = absurd (was h)
      hop_stands x (To y) same was becomes free fresh rests h =
          let link : Points net.links x y = (same.out y).0 h.1.1.link in
          let stays : slice_index counts y ≡ 0 = ⊎_elim
          (λ e. e)
          (λ some. absurd (fresh (
            y,
            (
              omega (arith, some),
              inr (
                (round_joins net.nodes d net.links (settled_state net d counts) left.is_net counted.destination round x
                    y).0 (inl link),
                refl,
              ),
            ),
          )))
          (cases_eq (slice_index counts y) 0) in
          hop_leads_on net.nodes d net.links (settled_state net d counts) left.is_net counted.destination round x y
          becomes
          (λ e. omega (arith, e, rests, counted.destination))
          (record {
            link = still_away x y rests stays link;
            least = λ w g. h.1.1.least w ((same.out w).1 (was_away x w rests g));
          })
      hop_stands x CutOff same was becomes free fresh rests h =
          still_cut_off net.nodes d net.links (settled_state net d counts) left.is_net counted.destination round x
          becomes
          (λ w g.
          let joins : Joins s.links x w = inl ((same.out w).1 (was_away x w rests g)) in
          h.1 ((round_joined s.nodes s.dest after.first s after.is_net after.dest after.round x).0
          (linked_joined s.nodes s.dest after.first s after.is_net after.dest after.round x w joins free)))

      -- whether one of two nodes has turned
      turned_end : (x w : ℕ) → HasTurnedEnd counts x w ⊎ ((slice_index counts x ≡ 0) × (slice_index counts w ≡ 0))
      turned_end x w = elim (cases_eq (slice_index counts x) 0) [
        | inl rests ↦ elim (cases_eq (slice_index counts w) 0) [
          | inl stays ↦ inr (rests, stays)
          | inr some ↦ inl (inr (omega (arith, some)))
        ]
        | inr some ↦ inl (inl (omega (arith, some)))
      ]

      -- a link that no edit removes is there after the round, reversed only if one of its ends has turned
      link_kept : (x w : ℕ) → Points s.links x w
          → IsCut edits x w
          ⊎ (Points (settled_state net d counts).links x w
          ⊎ (Points (settled_state net d counts).links w x × HasTurnedEnd counts x w))
      link_kept x w h = elim (left.kept x w h) [
        | inl cut ↦ inl cut
        | inr stays ↦ elim ((round_joins net.nodes d net.links (settled_state net d counts) left.is_net
            counted.destination
            round x w).0 (inl stays)) [
              | inl same ↦ inr (inl same)
              | inr back ↦ elim (turned_end x w) [
                | inl turned ↦ inr (inr (back, turned))
                | inr rest ↦ inr (inl (still_away x w rest.0 rest.1 stays))
              ]
            ]
      ]

      -- a link after the round is one that an edit has added, or it was there, unless one of its ends has turned
      link_new : (x w : ℕ) → Points (settled_state net d counts).links x w
          → IsAdded edits x w ⊎ (Points s.links x w ⊎ HasTurnedEnd counts x w)
      link_new x w h = elim (turned_end x w) [
        | inl turned ↦ inr (inr turned)
        | inr rest ↦ ⊎_elim (λ add. inl add) (λ was. inr (inl was)) (left.new x w (was_away x w rest.0 h))
      ]

      -- so distances are out of date only for the edits and the turns
      pub old_distances : (m : Measured) → HasDistances s m
          → AreOldDistances (net_of net.nodes (links_at net.links counts)) counts edits m
      old_distances m has = record {
        links = s.links;
        node =
            subst (λ (n : ℕ). m.dest < n) (sym same_nodes) (subst (λ (e : ℕ). e < s.nodes) (sym has.dest) after.dest);
        were = subst (λ (n : ℕ). AreDistances n s.links m.dest m.table) (sym same_nodes)
            (subst (λ (e : ℕ). AreDistances s.nodes s.links e m.table) (sym has.dest) has.table);
        counted = counted.settled.one_each;
        ends = subst (λ (n : ℕ). All (HasEndsBelow n) edits) (sym same_nodes) left.below;
        kept = link_kept;
        new = link_new;
      }

      abbrev after_links : List (ℕ × ℕ)
      after_links = (settled_state net d counts).links

      kept_counts : (x w : ℕ) → Points net.links x w → IsKept counts (x, w)
      kept_counts x w h =
          All-contains (IsKept counts) net.links (x, w)
          (lawful net.nodes d net.links (settled_state net d counts) left.is_net counted.destination round).kept h

      -- a node that is no end of an edit had the links that its turns, and those of its neighbours, have reversed
      had_links : (x : ℕ) → ¬ Contains (ends_of edits) x → HadLinks after_links counts s.links x
      had_links x none w = (into, back)
        where
          same : HaveSameAt s.links net.links x
          same = edits_keep (net_at s) edits net x left none

          into : Points s.links x w
              → (Points after_links x w × (slice_index counts x ≡ slice_index counts w))
              ⊎ (Points after_links w x × (slice_index counts x ≢ slice_index counts w))
          into h =
              let link : Points net.links x w = (same.out w).0 h in
              ⊎_elim
              (λ equal. inl (
                into_order (links_at net.links counts) (x, w) (Points-links_at_same net.links counts x w link equal),
                sym equal,
              ))
              (λ more. inr (
                into_order (links_at net.links counts) (w, x) (Points-links_at_turned net.links counts w x link more),
                λ e. omega (arith, e, more),
              ))
              (kept_counts x w link)

          back : (Points after_links x w × (slice_index counts x ≡ slice_index counts w))
              ⊎ (Points after_links w x × (slice_index counts x ≢ slice_index counts w)) → Points s.links x w
          back (inl (h, e)) = ⊎_elim (λ p. (same.out w).1 p.0) (λ p. absurd (omega (arith, e, p.1)))
              (Points-links_at_from net.links counts x w (out_of_order (links_at net.links counts) (x, w) h))
          back (inr (h, e)) = ⊎_elim (λ p. absurd (e p.1)) (λ p. (same.out w).1 p.0)
              (Points-links_at_from net.links counts w x (out_of_order (links_at net.links counts) (w, x) h))

      -- so what a router notes before the edits and after the turns leads from one state to the other
      pub leads_on : (old new : Measured) (notes : WayNotes) → HasDistances s old
          → IsRenewed (net_of net.nodes (links_at net.links counts)) d old new
          → IsBegun s.nodes s.links s.dest edits notes → LeadsOn s (settled_state net d counts) edits new notes
      leads_on old new notes has renewed begun = record {
        begun = rw same_nodes begun;
        same_nodes = sym same_nodes;
        was_net = rw same_nodes (here s after);
        is_net = round_net net.nodes d net.links (settled_state net d counts) left.is_net counted.destination round;
        was_below = rw same_nodes after.dest;
        is_below = counted.destination;
        were = rw (same_nodes, renewed.before) has.table;
        are = renewed.table;
        changed = renewed.changed;
        counted = counted.settled.one_each;
        ends = rw same_nodes left.below;
        kept = link_kept;
        new = link_new;
        had = had_links;
        few = omega (
          arith,
          length_permutation (links_at net.links counts) after_links (in_order_permutes (links_at net.links counts)),
          length-links_at net.links counts
              (lawful net.nodes d net.links (settled_state net d counts) left.is_net counted.destination round).kept,
          left.few,
        );
      }

      -- the hop of each node that cannot move stays right, unless it is stale
      pub unmoved_hops : (hops : List Hop) → AreHops s s.nodes hops
          → HoldsMoved (settled_state net d counts) hops (movable s d edits)
      unmoved_hops hops are = record {
        below = movable_below;
        others = λ x hop at none fresh.
            let un = unmoved x none in
            let not = untouched x un.0 in
            let rests : slice_index counts x ≡ 0 =
            ⊎_elim (λ e. e) (λ some. absurd (fresh (x, (omega (arith, some), inl refl))))
            (cases_eq (slice_index counts x) 0) in
            hop_stands x hop not.2 not.0 not.1 un.1 fresh rests (are.each x hop at);
      }
