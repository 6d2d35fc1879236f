-- Who turns in the round after a change, how links stand after it, and who keeps its hop.
use Rattle.std.proofs.Common.{[], List, [], arith, inl, inr, slice_index, subst, sym, ℕ, ⊎_elim, ◌++◌}
use Rattle.std.proofs.Common.{◌+◌, ◌<◌, ◌∙◌, ◌∷◌, ◌≡◌, ◌↔◌}
use Rattle.std.proofs.lemmas.Bool.{cases_lt}
use Rattle.std.proofs.lemmas.List.{get_or_past}
use Rattle.fr_graph.specs.Counts.{links_at}
use Rattle.fr_graph.specs.Links.{HasPath, HaveSameLinks, IsAlone, IsNet, IsPath, Joins, Points, end_of}
use Rattle.fr_graph.proofs.Giving.{ComesFrom, Points-links_at_from, Points-links_at_same}
use Rattle.fr_graph.proofs.Ordering.{into_order, out_of_order}
use Rattle.fr_graph.proofs.Linking.{joined_below, path_carries}
use Rattle.fr_core.specs.Walks.{IsConnected}
use Rattle.fr_core.proofs.Joining.{joins_kept}
use Rattle.fr_core.proofs.Paths.{path_gives_zero, zero_gives_path}
use Rattle.fr_core.proofs.Settling.{cases_linked, walk_along}
use Rattle.fr_route.specs.Routes.{IsHop, IsNextHop, IsRoute}
use Rattle.fr_route.specs.States.{State, IsAfterRound, IsRound}
use Rattle.fr_tables.specs.declared.hop.Hop.TheVariants.{CutOff, Here, To}
use Rattle.fr_route.proofs.RoundEnds.{hop_leads_on, lawful, round_joins, route_home}
use Rattle.fr_route.proofs.Routing.{route_end, route_path}
use Rattle.fr_laws.specs.Locality.{AreLinksBetween, HasTurned, KeepsHop}

-- Who turns, and how links stand after it

module _ (n d : ℕ) (first : List (ℕ × ℕ)) (new : State) (net : IsNet n first) (below : d < n)
    (round : IsRound n d first new) where
  count_zero : (x : ℕ) → ¬ HasTurned new x → slice_index new.counts x ≡ 0
  count_zero x still = ⊎_elim (λ l. absurd (still l)) (λ h. omega (arith, h)) (cases_lt 0 (slice_index new.counts x))

  zero_by_path : (x : ℕ) → HasPath first x d → slice_index new.counts x ≡ 0
  zero_by_path x path = ⊎_elim
      (λ l. path_gives_zero n d first x (slice_index new.counts x) (round.counts.settled x l) path)
      (λ out. get_or_past new.counts x 0 (omega (arith, out, round.counts.one_each)))
      (cases_lt x n)

  pub path_still : (x : ℕ) → HasPath first x d → ¬ HasTurned new x
  path_still x path turned = omega (arith, turned, zero_by_path x path)

  pub still_path : (x : ℕ) → ¬ IsAlone first x → ¬ HasTurned new x → HasPath first x d
  still_path x linked still = ⊎_elim
      (λ (w, h).
      let inside : x < n = (joined_below n first x w net h).0 in
      let count = slice_index new.counts x in
      zero_gives_path n d first x count inside linked (round.counts.settled x inside) (count_zero x still))
      (λ alone. absurd (linked alone))
      (cases_linked first x)

  turned_without : (x : ℕ) → ¬ IsAlone first x → ¬ HasPath first x d → HasTurned new x
  turned_without x linked none = ⊎_elim (λ l. l)
      (λ low. absurd (none (still_path x linked (λ l. omega (arith, l, low)))))
      (cases_lt 0 (slice_index new.counts x))

  pub who_turns : (x : ℕ) → HasTurned new x ↔ (¬ IsAlone first x × ¬ HasPath first x d)
  who_turns x = (
    λ turned. (
      (λ alone. omega (arith, turned, (lawful n d first new net below round).alone x alone)),
      (λ path. path_still x path turned),
    ),
    λ h. turned_without x h.0 h.1,
  )

  -- the links after the round are those that the counts give
  as_given : HaveSameLinks (links_at first new.counts) new.links
  as_given = subst (HaveSameLinks (links_at first new.counts)) (sym round.links)
      (λ x y. (into_order (links_at first new.counts) (x, y), out_of_order (links_at first new.counts) (x, y)))

  given : (x y : ℕ) → Points new.links x y → ComesFrom first new.counts x y
  given x y h = Points-links_at_from first new.counts x y ((as_given x y).1 h)

  still_back : (x y : ℕ) → ¬ HasTurned new x → ComesFrom first new.counts x y → Points first x y
  still_back x y still (inl h) = h.0
  still_back x y still (inr h) = absurd (omega (arith, h.1, count_zero x still))

  stands : (x y : ℕ) → ¬ HasTurned new x → ¬ HasTurned new y → Points first x y → Points new.links x y
  stands x y sx sy h = (as_given x y).0
      (Points-links_at_same first new.counts x y h (omega (arith, count_zero x sx, count_zero y sy)))

  from_turned : (x y : ℕ) → HasTurned new x → ¬ HasTurned new y → Joins (links_at first new.counts) x y
      → Points new.links x y
  from_turned x y turned still (inl h) = (as_given x y).0 h
  from_turned x y turned still (inr h) = ⊎_elim
      (λ g. absurd (omega (arith, g.1, turned, count_zero y still)))
      (λ g. absurd (omega (arith, g.1, count_zero y still)))
      (Points-links_at_from first new.counts y x h)

  -- where a link points after the round from a node that has not turned
  pub out_still : (x w : ℕ) → ¬ HasTurned new x → Points new.links x w → Points first x w × ¬ HasTurned new w
  out_still x w still h = go (given x w h)
    where
      go : ComesFrom first new.counts x w → Points first x w × ¬ HasTurned new w
      go (inl g) = (g.0, λ turned. omega (arith, turned, g.1, count_zero x still))
      go (inr g) = absurd (omega (arith, g.1, count_zero x still))

  pub links_between : (x y : ℕ) → AreLinksBetween first new x y
  links_between x y =
      let kept = (lawful n d first new net below round).kept in
      record {
        still = λ sx sy. (stands x y sx sy, λ h. still_back x y sx (given x y h));
        border = λ turned still. (
          (λ h. from_turned x y turned still (joins_kept first new.counts kept x y h)),
          (λ h. (round_joins n d first new net below round x y).1 (inl h)),
        );
      }

-- Who keeps its hop

pub home : (s : State) → IsAfterRound s → (x : ℕ) → IsConnected s.links s.dest x → HasPath s.links x s.dest
home s after x joined =
    let r = route_home s.nodes s.dest after.first s after.is_net after.dest after.round x joined in
    (r.0, (route_path s.links s.dest x r.0 r.1, route_end s.links s.dest x r.0 r.1))

pub joined_out : (links : List (ℕ × ℕ)) (d x w : ℕ) → IsConnected links d x → Points links x w → IsConnected links d w
joined_out links d x w (k, (vs, walk)) h = (k + 1, (vs ++ w ∷ [], walk_along links d vs k x w walk h))

pub joined_on : (links : List (ℕ × ℕ)) (d x : ℕ) (vs : List ℕ) (y : ℕ) → IsConnected links d x → IsPath links x vs
    → end_of x vs ≡ y → IsConnected links d y
joined_on links d x [] y joined path ends = subst (IsConnected links d) ends joined
joined_on links d x (w ∷ ws) y joined path ends =
    joined_on links d w ws y (joined_out links d x w joined path.0) path.1 ends

-- the round after a change that keeps the destination
module _ (s : State) (after : IsAfterRound s) (first : List (ℕ × ℕ)) (new : State) (net : IsNet s.nodes first)
    (round : IsRound s.nodes s.dest first new) where
  -- a node that does not turn, and is not the destination, sends on to its next hop
  pub leads_to : (x y : ℕ) → ¬ HasTurned new x → ¬ (x ≡ s.dest) → IsNextHop new.links x y → IsHop new x (To y)
  leads_to x y still apart next =
      let zero = count_zero s.nodes s.dest first new net after.dest round x still in
      let free : ¬ (slice_index new.counts x ≡ s.nodes) = λ e. omega (arith, e, zero, after.dest) in
      let leads = hop_leads_on s.nodes s.dest first new net after.dest round x y apart free next in
      subst (λ (d : ℕ). (rest : List ℕ) × IsRoute new.links d x (y ∷ rest)) (sym round.dest) leads

  -- a connected node keeps its hop if it does not turn, and its links point to the nodes to which they did, none of which
  -- turns
  pub keeps_hop : (x : ℕ) → IsConnected s.links s.dest x → ¬ HasTurned new x
      → ((w : ℕ) → Points s.links x w → Points first x w × ¬ HasTurned new w)
      → ((w : ℕ) → Points first x w → Points s.links x w) → KeepsHop s new x
  keeps_hop x joined still out back Here h = h ∙ sym round.dest
  keeps_hop x joined still out back (To y) (rest, (apart, hop, route)) =
      let between = links_between s.nodes s.dest first new net after.dest round x y in
      leads_to x y still apart (record {
        link = let to = out y hop.link in (between.still still to.1).0 to.0;
        least = λ w h. hop.least w (back w (out_still s.nodes s.dest first new net after.dest round x w still h).0);
      })
  keeps_hop x joined still out back CutOff h = absurd (h.1 joined)

  module _ (grows : (a b : ℕ) → Points s.links a b → Points first a b) where
    pub grown_still : (x : ℕ) → IsConnected s.links s.dest x → ¬ HasTurned new x
    grown_still x joined =
        let path = home s after x joined in
        let kept = path_carries s.links first grows x path.0 path.1.0 in
        path_still s.nodes s.dest first new net after.dest round x (path.0, (kept, path.1.1))
