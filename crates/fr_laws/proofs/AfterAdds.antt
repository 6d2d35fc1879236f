-- The round after a link is added: which nodes it leaves alone, and which hop it changes.
use Rattle.std.proofs.Common.{[], List, ap, arith, inl, inr, refl, subst, sym, ℕ, ⊎_elim}
use Rattle.std.proofs.Common.{◌∙◌, ◌<◌, ◌∷◌, ◌≡◌, ◌⊎◌}
use Rattle.std.proofs.lemmas.Bool.{cases_lt}
use Rattle.std.proofs.lemmas.List.Elements.{Contains-append_left, Contains-push, Contains-push_cases}
use Rattle.fr_graph.specs.Edits.{IsJoined as IsNetJoined}
use Rattle.fr_graph.specs.Links.{IsAlone, HasPath, HaveSameLinks, IsAcyclic, IsNet, IsPath, Points}
use Rattle.fr_graph.specs.Network.{Network}
use Rattle.fr_graph.proofs.AddedLinks.{added, path_joins}
use Rattle.fr_graph.proofs.Linking.{path_carries}
use Rattle.fr_core.specs.Walks.{IsConnected}
use Rattle.fr_core.proofs.SameLinks.{same_acyclic, same_from_permutation, same_sym}
use Rattle.fr_core.proofs.Paths.{walk_from_path}
use Rattle.fr_route.specs.States.{State, IsAfterRound, IsRound}
use Rattle.fr_route.specs.Routes.{IsHop}
use Rattle.fr_route.specs.declared.change.Change.TheVariants.{Add, Join}
use Rattle.fr_tables.specs.declared.hop.Hop.TheVariants.{CutOff, Here, To}
use Rattle.fr_laws.specs.Locality.{AreEnds, HasTurned, IsAfterAdd, IsSettledAnew, KeepsHop, TakesLink}
use Rattle.fr_laws.proofs.ChangeRounds.{begins_net, moved_round}
use Rattle.fr_laws.proofs.TurnsAfter.{grown_still, joined_out, leads_to, links_between, out_still, still_path}

pushed_cases : (links : List (ℕ × ℕ)) (u v x w : ℕ) → Points (added links u v) x w
    → Points links x w ⊎ ((x ≡ u) × (w ≡ v))
pushed_cases links u v x w h = ⊎_elim inl
    (λ e. inr (sym (ap (λ (l : ℕ × ℕ). l.0) e), sym (ap (λ (l : ℕ × ℕ). l.1) e)))
    (Contains-push_cases links (u, v) (x, w) h)

-- no path from the head of the added link goes over it
path_from_head : (links : List (ℕ × ℕ)) (u v : ℕ) → IsAcyclic (added links u v) → (x : ℕ) (vs : List ℕ)
    → HasPath (added links u v) v x → IsPath (added links u v) x vs → IsPath links x vs
path_from_head links u v acyclic x [] here path = tt
path_from_head links u v acyclic x (w ∷ ws) here path =
    let step : HasPath (added links u v) x w = (w ∷ [], ((path.0, tt), refl)) in
    let on : HasPath (added links u v) v w = path_joins (added links u v) v here.0 x w here.1.0 here.1.1 step in
    ⊎_elim (λ old. (old, path_from_head links u v acyclic w ws on path.1))
    (λ e. absurd (acyclic u (v ∷ here.0) ((Contains-push links (u, v), here.1.0), here.1.1 ∙ e.0)))
    (pushed_cases links u v x w path.0)

-- the round after a link from `tail` to `head` is added, with the links in whatever order
module _ (s : State) (after : IsAfterRound s) (tail head : ℕ) (first : List (ℕ × ℕ)) (new : State)
    (listed : HaveSameLinks (added s.links tail head) first) (net : IsNet s.nodes first)
    (round : IsRound s.nodes s.dest first new) where
  grows : (x y : ℕ) → Points s.links x y → Points first x y
  grows x y h = (listed x y).0 (Contains-append_left s.links ((tail, head) ∷ []) (x, y) h)

  added_is : Points first tail head
  added_is = (listed tail head).0 (Contains-push s.links (tail, head))

  pub still : (x : ℕ) → IsConnected s.links s.dest x → ¬ HasTurned new x
  still = grown_still s after first new net round grows

  -- a head that does not turn has a path, which is none over the added link
  head_joined : ¬ HasTurned new head → IsConnected s.links s.dest head
  head_joined rests =
      let acyclic : IsAcyclic (added s.links tail head) =
      same_acyclic first (added s.links tail head) (same_sym (added s.links tail head) first listed) net.acyclic in
      let linked : ¬ IsAlone first head = λ alone. alone tail (inr added_is) in
      let path = still_path s.nodes s.dest first new net after.dest round head linked rests in
      let back = path_carries first (added s.links tail head) (λ a b h. (listed a b).1 h) head path.0 path.1.0 in
      let old = path_from_head s.links tail head acyclic head path.0 ([], (tt, refl)) back in
      (0, walk_from_path s.links s.dest head path.0 old path.1.1)

  -- where a link points after the round from a node that has not turned
  pub new_out : (x w : ℕ) → ¬ HasTurned new x → Points new.links x w
      → Points s.links x w ⊎ ((x ≡ tail) × (w ≡ head) × ¬ HasTurned new head)
  new_out x w rests h =
      let out = out_still s.nodes s.dest first new net after.dest round x w rests h in
      ⊎_elim inl (λ e. inr (e.0, e.1, subst (λ (z : ℕ). ¬ HasTurned new z) e.1 out.1))
      (pushed_cases s.links tail head x w ((listed x w).1 out.0))

  takes : (x : ℕ) → IsConnected s.links s.dest x → TakesLink s tail head x → IsHop new x (To head)
  takes x joined t =
      let between = links_between s.nodes s.dest first new net after.dest round x head in
      let stands : Points first x head = subst (λ (z : ℕ). Points first z head) (sym t.at_tail) added_is in
      leads_to s after first new net round x head (still x joined) t.hop.1.0 (record {
        link = (between.still (still x joined) (still head t.joined)).0 stands;
        least = λ w h. ⊎_elim (λ old. omega (arith, t.less, t.hop.1.1.least w old)) (λ e. omega (arith, e.1))
            (new_out x w (still x joined) h);
      })

  keeps : (x : ℕ) → IsConnected s.links s.dest x → ¬ TakesLink s tail head x → KeepsHop s new x
  keeps x joined other Here h = h ∙ sym round.dest
  keeps x joined other (To y) (rest, (apart, hop, route)) =
      let between = links_between s.nodes s.dest first new net after.dest round x y in
      let next = still y (joined_out s.links s.dest x y joined hop.link) in
      let taken : x ≡ tail → ¬ HasTurned new head → head < y → TakesLink s tail head x = λ e rests lt. record {
        at_tail = e;
        joined = head_joined rests;
        before = y;
        hop = (rest, (apart, hop, route));
        less = lt;
      } in
      leads_to s after first new net round x y (still x joined) apart (record {
        link = (between.still (still x joined) next).0 (grows x y hop.link);
        least = λ w h. ⊎_elim (hop.least w)
            (λ e. ⊎_elim (λ lt. absurd (other (taken e.0 e.2 lt))) (λ le. omega (arith, le, e.1)) (cases_lt head y))
            (new_out x w (still x joined) h);
      })
  keeps x joined other CutOff h = absurd (h.1 joined)

  after_add : (x : ℕ) → IsConnected s.links s.dest x → IsAfterAdd s tail head new x
  after_add x joined = record { still = still x joined; takes = takes x joined; keeps = keeps x joined }

pub add_spares : (s : State) (u v : ℕ) (first : List (ℕ × ℕ)) (d : ℕ) (new : State) (x : ℕ)
    → IsSettledAnew s (Add u v) first d new → IsConnected s.links s.dest x → IsAfterAdd s u v new x
add_spares s u v first d new x h joined =
    let links = added s.links u v in
    let round = moved_round s.nodes d s.dest first links new h.begins.1 h.begins.2 h.round in
    after_add s h.settled u v links new (λ a b. ((λ p. p), (λ p. p))) h.begins.0.is_net round x joined

-- what a join does, by the network that it makes
abbrev AfterJoin : State → ℕ → ℕ → List (ℕ × ℕ) → State → Type 0
AfterJoin s u v first new = (tail : ℕ) × (head : ℕ) × AreEnds u v tail head × Points first tail head
    × ((x : ℕ) → IsConnected s.links s.dest x → IsAfterAdd s tail head new x)

join_by : (s : State) (after : IsAfterRound s) (u v : ℕ) (net : Network) (new : State)
    → IsNetJoined s.nodes s.links u v net → IsNet s.nodes net.links → IsRound s.nodes s.dest net.links new
    → AfterJoin s u v net.links new
join_by s after u v net new (inl made) is round =
    let listed = same_from_permutation (added s.links u v) net.links made.same_links in
    let links = net.links in
    let stands : Points links u v = added_is s after u v links new listed is round in
    (u, v, inl (refl, refl), stands, after_add s after u v links new listed is round)
join_by s after u v net new (inr made) is round =
    let listed = same_from_permutation (added s.links v u) net.links made.1.same_links in
    let links = net.links in
    let stands : Points links v u = added_is s after v u links new listed is round in
    (v, u, inr (refl, refl), stands, after_add s after v u links new listed is round)

pub join_spares : (s : State) (u v : ℕ) (first : List (ℕ × ℕ)) (d : ℕ) (new : State)
    → IsSettledAnew s (Join u v) first d new → AfterJoin s u v first new
join_spares s u v first d new h =
    let net = h.begins.0.0 in
    let links : first ≡ net.links = h.begins.0.2 in
    let is = begins_net s (Join u v) first d h.settled h.begins in
    let round = moved_round s.nodes d s.dest first net.links new links h.begins.1 h.round in
    subst (λ (l : List (ℕ × ℕ)). AfterJoin s u v l new) (sym links)
    (join_by s h.settled u v net new h.begins.0.1 (subst (IsNet s.nodes) links is) round)
