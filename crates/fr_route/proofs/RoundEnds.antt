-- What the end of a round is: which networks lead to it, and what its links and routes are.
use Rattle.std.proofs.Common.{◌≡◌, ◌∙◌, ℕ, ⊎_elim, ◌<◌, ◌↔◌, List, ◌∷◌, ap, inl, inr, subst, sum, sym, slice_index}
use Rattle.std.proofs.Common.{IsPermutation}
use Rattle.std.proofs.lemmas.List.Sorted.{IsPermutation-sym}
use Rattle.fr_graph.specs.Links.{IsAcyclic, IsAlone, IsNet, HaveSameLinks, Joins, Points}
use Rattle.fr_graph.specs.Order.{in_order}
use Rattle.fr_graph.specs.Counts.{AreLawful, links_at}
use Rattle.fr_graph.specs.Network.{Network, net_of}
use Rattle.fr_graph.specs.Faults.{IsNetworkOf}
use Rattle.fr_graph.proofs.Acyclic.{links_at_acyclic}
use Rattle.fr_graph.proofs.Building.{permuted_net}
use Rattle.fr_graph.proofs.Ordering.{in_order_permutes, into_order, out_of_order}
use Rattle.fr_graph.proofs.Reordering.{in_order-links_at}
use Rattle.fr_graph.proofs.TurnedLinks.{net_turned}
use Rattle.fr_core.specs.Walks.{IsConnected}
use Rattle.fr_core.specs.Settled.{AreSettled}
use Rattle.fr_core.proofs.Joining.{joined_at, joins_at, joins_kept, walk_linked}
use Rattle.fr_core.specs.Work.{IsWithinWork}
use Rattle.fr_core.proofs.Totals.{settled_within}
use Rattle.fr_core.proofs.SameLinks.{same_acyclic, same_from_permutation, same_settled, same_joined, same_sym}
use Rattle.fr_core.proofs.Unique.{IsLinkedCount, not_joined_from_cap, of_linked, settled_lawful, settled_unique}
use Rattle.fr_route.specs.States.{State, IsRound, IsCutOff, state_with}
use Rattle.fr_route.specs.Routes.{IsNextHop, IsRoute}
use Rattle.fr_route.proofs.Routing.{joined_next, out_of_joined, route, same_route}

pub round_end : (n d : ℕ) (first : List (ℕ × ℕ)) (counts : List ℕ) (net : Network) → AreSettled n d first counts
    → net ≡ net_of n (links_at first counts) → IsRound n d first (state_with net d counts)
round_end n d first counts net settled is = record {
  nodes = ap (λ (m : Network). m.nodes) is;
  dest = λ _. d;
  counts = settled;
  links = ap (λ (m : Network). m.links) is;
}

-- the links in the order of the list
pub round_listed : (n d : ℕ) (listed : List (ℕ × ℕ)) (net : Network) (s : State) → IsNetworkOf n listed net
    → IsRound net.nodes d net.links s → IsRound n d listed s
round_listed n d listed net s made round =
    let same : net.nodes ≡ n = ap (λ (m : Network). m.nodes) made.is in
    let back : IsPermutation net.links listed = IsPermutation-sym listed net.links made.same_links in
    record {
      nodes = round.nodes ∙ same;
      dest = round.dest;
      counts = same_settled net.links listed (same_from_permutation net.links listed back) n d s.counts
          (subst (λ (m : ℕ). AreSettled m d net.links s.counts) same round.counts);
      links = round.links ∙ in_order-links_at net.links listed s.counts back;
    }

-- there is only one
pub round_unique : (n d : ℕ) (first : List (ℕ × ℕ)) (s t : State) → IsRound n d first s → IsRound n d first t → s ≡ t
round_unique n d first s t a b =
    let c : s.counts ≡ t.counts = settled_unique n d first s.counts t.counts a.counts b.counts in
    let l : s.links ≡ t.links = a.links ∙ (ap (λ (c : List ℕ). in_order (links_at first c)) c ∙ sym b.links) in
    let k : s.nodes ≡ t.nodes = a.nodes ∙ sym b.nodes in
    let e : s.dest ≡ t.dest = a.dest ∙ sym b.dest in
    λ i. record { nodes = k i; dest = e i; links = l i; counts = c i }

-- the turns of a round are within the bound of its first links
pub round_within : (s : State) (turned : ℕ) → turned ≡ sum s.counts → (first : List (ℕ × ℕ)) → IsNet s.nodes first
    → s.dest < s.nodes → IsRound s.nodes s.dest first s → IsWithinWork s.nodes s.dest first turned
round_within s turned total first net below round =
    subst (IsWithinWork s.nodes s.dest first) (sym total)
    (settled_within s.nodes s.dest first net below s.counts round.counts)

same_in_order : (links : List (ℕ × ℕ)) → HaveSameLinks links (in_order links)
same_in_order links u v = (into_order links (u, v), out_of_order links (u, v))

module _ (n d : ℕ) (first : List (ℕ × ℕ)) (s : State) (net : IsNet n first) (below : d
    < n) (round : IsRound n d first s) where
  pub lawful : AreLawful n d first s.counts
  lawful = settled_lawful n d first net below s.counts round.counts

  -- the links of the state are those that the counts give
  as_given : HaveSameLinks (links_at first s.counts) s.links
  as_given = subst (HaveSameLinks (links_at first s.counts)) (sym round.links) (same_in_order (links_at first s.counts))

  given_back : HaveSameLinks s.links (links_at first s.counts)
  given_back = same_sym (links_at first s.counts) s.links as_given

  pub round_net : IsNet n s.links
  round_net =
      let given : IsNet n (links_at first s.counts) = net_turned n first s.counts lawful.kept net in
      subst (IsNet n) (sym round.links) (permuted_net n (links_at first s.counts) (in_order (links_at first s.counts))
      (in_order_permutes (links_at first s.counts)) given)

  -- they contain no cycle
  pub round_acyclic : IsAcyclic s.links
  round_acyclic = same_acyclic (links_at first s.counts) s.links as_given (links_at_acyclic first s.counts net.acyclic)

  -- the same nodes are linked
  pub round_joins : (x y : ℕ) → Joins first x y ↔ Joins s.links x y
  round_joins x y = (
    (λ h. ⊎_elim (λ a. inl ((as_given x y).0 a)) (λ a. inr ((as_given y x).0 a))
        (joins_kept first s.counts lawful.kept x y h)),
    (λ h. joins_at first s.counts x y (⊎_elim (λ a. inl ((given_back x y).0 a)) (λ a. inr ((given_back y x).0 a)) h)),
  )

  pub round_joined : (x : ℕ) → IsConnected first d x ↔ IsConnected s.links d x
  round_joined x = (
    (λ j. same_joined (links_at first s.counts) s.links as_given d x ((joined_at first s.counts lawful.kept d x).0 j)),
    (λ j. (joined_at first s.counts lawful.kept d x).1
        (same_joined s.links (links_at first s.counts) given_back d x j)),
  )

  pub route_home : (x : ℕ) → IsConnected s.links d x → (rest : List ℕ) × IsRoute s.links d x rest
  route_home x joined =
      let r = route n d first net below s.counts round.counts x ((round_joined x).1 joined) in
      (r.0, same_route (links_at first s.counts) s.links as_given d x r.0 r.1)

  -- a node whose count is the cap is cut off
  pub capped_cut_off : (x : ℕ) → ¬ (x ≡ d) → slice_index s.counts x ≡ n → IsCutOff d s.links x
  capped_cut_off x apart capped =
      (apart, λ j. not_joined_from_cap n d first net below s.counts round.counts x capped ((round_joined x).1 j))

  -- so is a node without a link
  pub alone_cut_off : (x : ℕ) → ¬ (x ≡ d) → IsAlone first x → IsCutOff d s.links x
  alone_cut_off x apart alone = (
    apart,
    (λ j. let joined : IsConnected first d x = (round_joined x).1 j in ⊎_elim apart (λ h. alone h.0 h.1)
        (walk_linked first d joined.1.0 joined.0 x joined.1.1)),
  )

  -- so is a node from which no link points away
  pub still_cut_off : (x : ℕ) → ¬ (x ≡ d) → ((w : ℕ) → ¬ Points s.links x w) → IsCutOff d s.links x
  still_cut_off x apart none = (
    apart,
    λ j. let o = out_of_joined n d first net below s.counts round.counts x
        ((round_joined x).1 j) apart in none o.0 ((as_given x o.0).0 o.1),
  )

  -- a node with a link whose count is below the cap is connected to the destination
  pub linked_joined : (x y : ℕ) → Joins s.links x y → ¬ (slice_index s.counts x ≡ n) → IsConnected first d x
  linked_joined x y h free = go (of_linked n d first net below s.counts round.counts x y ((round_joins x y).1 h))
    where
      go : IsLinkedCount n d first x (slice_index s.counts x) → IsConnected first d x
      go (inl least) = (slice_index s.counts x, least.reached)
      go (inr out) = absurd (free out.1)

  -- a link points away from it, unless it is the destination
  pub linked_out : (x y : ℕ) → Joins s.links x y → ¬ (slice_index s.counts x ≡ n) → ¬ (x ≡ d)
      → (w : ℕ) × Points s.links x w
  linked_out x y h free apart =
      let out = out_of_joined n d first net below s.counts round.counts x (linked_joined x y h free) apart in
      (out.0, (as_given x out.0).0 out.1)

  -- from every other node except the destination the next hop leads on
  pub hop_leads_on : (x y : ℕ) → ¬ (x ≡ d) → ¬ (slice_index s.counts x ≡ n) → IsNextHop s.links x y
      → (rest : List ℕ) × IsRoute s.links d x (y ∷ rest)
  hop_leads_on x y apart free hop =
      let link = (given_back x y).0 hop.link in
      let r = route n d first net below s.counts round.counts y
      (joined_next n d first net below s.counts round.counts x y link (linked_joined x y (inl hop.link) free)) in
      (r.0, (apart, hop, same_route (links_at first s.counts) s.links as_given d y r.0 r.1))
