-- Which nodes gain a way by a change, and where the ways of the others lead.
use Rattle.std.proofs.Common.{[], List, inl, inr, refl, subst, sym, ℕ, ⊎_elim, arith}
use Rattle.std.proofs.Common.{◌<◌, ◌∙◌, ◌∷◌, ◌≡◌, ◌⊎◌, slice_index}
use Rattle.std.specs.Prelude.{not}
use Rattle.std.proofs.lemmas.Bool.{cases_lt}
use Rattle.fr_graph.specs.Edits.{IsJoined as IsNetJoined, without}
use Rattle.fr_graph.specs.Links.{HaveSameLinks, IsNet, IsPath, Joins, end_of, is_between}
use Rattle.fr_graph.specs.Network.{Network}
use Rattle.fr_graph.proofs.AddedLinks.{added}
use Rattle.fr_graph.proofs.Editing.{from_filter}
use Rattle.fr_core.specs.Walks.{IsConnected}
use Rattle.fr_core.proofs.Joining.{joined_carries}
use Rattle.fr_core.proofs.SameLinks.{same_from_permutation}
use Rattle.fr_route.specs.Routes.{IsRoute}
use Rattle.fr_route.specs.States.{State, IsAfterRound, IsRound}
use Rattle.fr_route.specs.declared.change.Change.{Change}
use Rattle.fr_route.specs.declared.change.Change.TheVariants.{Add, Cut, Join}
use Rattle.fr_route.proofs.RoundEnds.{round_joined, route_home}
use Rattle.fr_laws.specs.Gains.{Gains, IsWay, LeadsHome}
use Rattle.fr_laws.specs.Locality.{AreEnds, HasTurned, IsSettledAnew}
use Rattle.fr_laws.proofs.AfterAdds.{new_out, still}
use Rattle.fr_laws.proofs.ChangeRounds.{begins_below, begins_net, moved_round}
use Rattle.fr_laws.proofs.TurnsAfter.{joined_on, out_still}

-- After a cut

left_joins : (links : List (ℕ × ℕ)) (u v a b : ℕ) → Joins (without u v links) a b → Joins links a b
left_joins links u v a b (inl h) = inl (from_filter (λ l. not (is_between u v l)) links (a, b) h)
left_joins links u v a b (inr h) = inr (from_filter (λ l. not (is_between u v l)) links (b, a) h)

left_connected : (links : List (ℕ × ℕ)) (u v d x : ℕ) → IsConnected (without u v links) d x → IsConnected links d x
left_connected links u v d x j = joined_carries (without u v links) links (left_joins links u v) d j.1.0 j.0 x j.1.1

-- a way of a node that did not turn was its way before the cut
way_was : (s : State) (u v : ℕ) (new : State) (x y : ℕ) → IsNet s.nodes (without u v s.links) → s.dest < s.nodes
    → IsRound s.nodes s.dest (without u v s.links) new → ¬ HasTurned new x → IsWay new x y → IsWay s x y
way_was s u v new x y net below round rests way =
    let left = without u v s.links in
    let link = (out_still s.nodes s.dest left new net below round x y rests way.link).0 in
    let here = subst (λ (d : ℕ). IsConnected new.links d x) round.dest way.connected in
    record {
      link = from_filter (λ l. not (is_between u v l)) s.links (x, y) link;
      connected = left_connected s.links u v s.dest x ((round_joined s.nodes s.dest left new net below round x).1 here);
    }

pub cut_grows : (s : State) (u v : ℕ) (first : List (ℕ × ℕ)) (d : ℕ) (new : State) (x y : ℕ)
    → IsSettledAnew s (Cut u v) first d new → Gains s new x y → HasTurned new x
cut_grows s u v first d new x y h gains = ⊎_elim (λ turned. turned)
    (λ low. absurd (gains.had (way_was s u v new x y net below round (λ turned. omega (arith, turned, low)) gains.has)))
    (cases_lt 0 (slice_index new.counts x))
  where
    round : IsRound s.nodes s.dest (without u v s.links) new
    round = moved_round s.nodes d s.dest first (without u v s.links) new h.begins.1 h.begins.2 h.round

    net : IsNet s.nodes (without u v s.links)
    net = subst (IsNet s.nodes) h.begins.1 (begins_net s (Cut u v) first d h.settled h.begins)

    below : s.dest < s.nodes
    below = h.settled.dest

-- After a link is added

-- the round after a link from `tail` to `head` is added, with the links in whatever order
gain_is : (s : State) (after : IsAfterRound s) (tail head : ℕ) (first : List (ℕ × ℕ)) (new : State)
    (listed : HaveSameLinks (added s.links tail head) first) (net : IsNet s.nodes first)
    (round : IsRound s.nodes s.dest first new) (x y : ℕ)
    → IsConnected s.links s.dest x → Gains s new x y → (x ≡ tail) × (y ≡ head)
gain_is s after tail head first new listed net round x y connected gains = ⊎_elim
    (λ old. absurd (gains.had (record { link = old; connected = connected })))
    (λ e. (e.0, e.1))
    (new_out s after tail head first new listed net round x y
    (still s after tail head first new listed net round x connected) gains.has.link)

pub add_grows : (s : State) (u v : ℕ) (first : List (ℕ × ℕ)) (d : ℕ) (new : State) (x y : ℕ)
    → IsSettledAnew s (Add u v) first d new → IsConnected s.links s.dest x → Gains s new x y → (x ≡ u) × (y ≡ v)
add_grows s u v first d new x y h =
    let links = added s.links u v in
    let round = moved_round s.nodes d s.dest first links new h.begins.1 h.begins.2 h.round in
    gain_is s h.settled u v links new (λ a b. ((λ p. p), (λ p. p))) h.begins.0.is_net round x y

-- only the tail gains a way, and only the head
abbrev GrowsATail : State → ℕ → ℕ → State → Type 0
GrowsATail s u v new = (tail : ℕ) × (head : ℕ) × AreEnds u v tail head
    × ((x y : ℕ) → IsConnected s.links s.dest x → Gains s new x y → (x ≡ tail) × (y ≡ head))

joined_grows : (s : State) (after : IsAfterRound s) (u v : ℕ) (net : Network) (new : State)
    → IsNetJoined s.nodes s.links u v net → IsNet s.nodes net.links → IsRound s.nodes s.dest net.links new
    → GrowsATail s u v new
joined_grows s after u v net new (inl made) is round =
    let listed = same_from_permutation (added s.links u v) net.links made.same_links in
    (u, v, inl (refl, refl), gain_is s after u v net.links new listed is round)
joined_grows s after u v net new (inr made) is round =
    let listed = same_from_permutation (added s.links v u) net.links made.1.same_links in
    (v, u, inr (refl, refl), gain_is s after v u net.links new listed is round)

pub join_grows : (s : State) (u v : ℕ) (first : List (ℕ × ℕ)) (d : ℕ) (new : State)
    → IsSettledAnew s (Join u v) first d new → GrowsATail s u v new
join_grows s u v first d new h =
    let net = h.begins.0.0 in
    let links : first ≡ net.links = h.begins.0.2 in
    let is = subst (IsNet s.nodes) links (begins_net s (Join u v) first d h.settled h.begins) in
    let round = moved_round s.nodes d s.dest first net.links new links h.begins.1 h.round in
    joined_grows s h.settled u v net new h.begins.0.1 is round

-- Where the ways of a node that did not turn lead

module _ (n d : ℕ) (first : List (ℕ × ℕ)) (new : State) (net : IsNet n first) (below : d < n)
    (round : IsRound n d first new) where
  still_on : (x : ℕ) (ys : List ℕ) → ¬ HasTurned new x → IsPath new.links x ys → ¬ HasTurned new (end_of x ys)
  still_on x [] rests path = rests
  still_on x (w ∷ ws) rests path = still_on w ws (out_still n d first new net below round x w rests path.0).1 path.1

  kept_on : (x : ℕ) (ys : List ℕ) → ¬ HasTurned new x → IsPath new.links x ys → IsPath first x ys
  kept_on x [] rests path = tt
  kept_on x (w ∷ ws) rests path =
      let out = out_still n d first new net below round x w rests path.0 in
      (out.0, kept_on w ws out.1 path.1)

  way_on : (z : ℕ) → IsConnected new.links new.dest z → (z ≡ new.dest) ⊎ ((y : ℕ) × IsWay new z y)
  way_on z connected = go (route_home n d first new net below round z here)
    where
      here : IsConnected new.links d z
      here = subst (λ (e : ℕ). IsConnected new.links e z) round.dest connected

      go : (rest : List ℕ) × IsRoute new.links d z rest → (z ≡ new.dest) ⊎ ((y : ℕ) × IsWay new z y)
      go ([], ends) = inl (ends ∙ sym round.dest)
      go (w ∷ ws, route) = inr (w, record { link = route.1.link; connected = connected })

pub still_leads_home : (s : State) (change : Change) (first : List (ℕ × ℕ)) (d : ℕ) (new : State) (x : ℕ)
    → IsSettledAnew s change first d new → IsConnected new.links new.dest x → ¬ HasTurned new x
    → LeadsHome first new x
still_leads_home s change first d new x h connected rests =
    let net = begins_net s change first d h.settled h.begins in
    let below = begins_below s change first d h.settled h.begins in
    record {
      still = λ ys path. still_on s.nodes d first new net below h.round x ys rests path;
      kept = λ ys path. kept_on s.nodes d first new net below h.round x ys rests path;
      goes_on = λ ys path. way_on s.nodes d first new net below h.round (end_of x ys)
          (joined_on new.links new.dest x ys (end_of x ys) connected path refl);
    }
