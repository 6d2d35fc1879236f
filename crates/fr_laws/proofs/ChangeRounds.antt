-- The round after a change of a settled network: a change is such a round, and the round begins with a network.
use Rattle.std.proofs.Common.{[], Bool, List, arith, count_by, get_or, refl, subst, sym, true, ℕ, ◌++◌}
use Rattle.std.proofs.Common.{◌<◌, ◌∷◌, ◌≡◌, ◌≤◌, false}
use Rattle.std.specs.Prelude.{not}
use Rattle.std.specs.List.{filter}
use Rattle.std.proofs.lemmas.List.Elements.{All-filter}
use Rattle.std.proofs.lemmas.List.Filters.{sum_by-filter_both}
use Rattle.fr_graph.specs.Edits.{without}
use Rattle.fr_graph.specs.Links.{IsNet, is_between}
use Rattle.fr_graph.specs.Network.{Network}
use Rattle.fr_graph.specs.declared.edit.Edit.TheVariants as edit
use Rattle.fr_graph.proofs.Counting.{one_passes, weigh}
use Rattle.fr_graph.proofs.Editing.{from_filter}
use Rattle.fr_graph.proofs.Linking.{is_between_itself, walk_carries}
use Rattle.fr_route.specs.Changes.{IsChanged}
use Rattle.fr_route.specs.States.{State, IsAfterRound, IsRound, net_at}
use Rattle.fr_route.specs.declared.change.Change.{Change}
use Rattle.fr_route.specs.declared.change.Change.TheVariants.{Add, Batch, Cut, Destination, Join}
use Rattle.fr_route.proofs.Changing.{joined_nodes, made_nodes}
use Rattle.fr_route.proofs.Moving.{made_net}
use Rattle.fr_route.proofs.RoundEnds.{round_net}
use Rattle.fr_laws.specs.Locality.{BeginsWith, IsSettledAnew}

-- The round after a change

pub moved_round : (n d e : ℕ) (a b : List (ℕ × ℕ)) (new : State) → a ≡ b → d ≡ e → IsRound n d a new → IsRound n e b new
moved_round n d e a b new links dest round =
    subst (λ (z : ℕ). IsRound n z b new) dest (subst (λ (l : List (ℕ × ℕ)). IsRound n d l new) links round)

at_nodes : (n m d : ℕ) (links : List (ℕ × ℕ)) (new : State) → n ≡ m → IsRound n d links new → IsRound m d links new
at_nodes n m d links new same round = subst (λ (k : ℕ). IsRound k d links new) same round

-- a change is such a round,
pub change_round : (s : State) (change : Change) (new : State) → IsAfterRound s → IsChanged s change new
    → (first : List (ℕ × ℕ)) × (d : ℕ) × IsSettledAnew s change first d new
change_round s (Cut u v) new after (joins, round) =
    (without u v s.links, s.dest, record { settled = after; begins = (joins, refl, refl); round = round })
change_round s (Add u v) new after (clear, round) =
    (s.links ++ (u, v) ∷ [], s.dest, record { settled = after; begins = (clear, refl, refl); round = round })
change_round s (Join u v) new after (net, (made, round)) = (
  net.links,
  s.dest,
  record {
    settled = after;
    begins = ((net, made, refl), refl);
    round = at_nodes net.nodes s.nodes s.dest net.links new (joined_nodes s.nodes s.links u v net made) round;
  },
)
change_round s (Batch edits) new after (few, (net, (made, round))) = (
  net.links,
  s.dest,
  record {
    settled = after;
    begins = (few, (net, made, refl), refl);
    round = at_nodes net.nodes s.nodes s.dest net.links new (made_nodes (net_at s) edits.items net made) round;
  },
)
change_round s (Destination to) new after (below, round) =
    (s.links, to, record { settled = after; begins = (below, refl, refl); round = round })

-- and such a round is a change
pub round_changes : (s : State) (change : Change) (first : List (ℕ × ℕ)) (d : ℕ) (new : State)
    → BeginsWith s change first d → IsRound s.nodes d first new → IsChanged s change new
round_changes s (Cut u v) first d new (joins, links, dest) round =
    (joins, moved_round s.nodes d s.dest first (without u v s.links) new links dest round)
round_changes s (Add u v) first d new (clear, links, dest) round =
    (clear, moved_round s.nodes d s.dest first (s.links ++ (u, v) ∷ []) new links dest round)
round_changes s (Join u v) first d new ((net, made, links), dest) round =
    let moved = moved_round s.nodes d s.dest first net.links new links dest round in
    let same : net.nodes ≡ s.nodes = joined_nodes s.nodes s.links u v net made in
    (net, (made, at_nodes s.nodes net.nodes s.dest net.links new (sym same) moved))
round_changes s (Batch edits) first d new (few, (net, made, links), dest) round =
    let moved = moved_round s.nodes d s.dest first net.links new links dest round in
    let same : net.nodes ≡ s.nodes = made_nodes (net_at s) edits.items net made in
    (few, (net, (made, at_nodes s.nodes net.nodes s.dest net.links new (sym same) moved)))
round_changes s (Destination to) first d new (below, links, dest) round =
    (below, moved_round s.nodes d to first s.links new links dest round)

-- It begins with a network

pub here : (s : State) → IsAfterRound s → IsNet s.nodes s.links
here s after = round_net s.nodes s.dest after.first s after.is_net after.dest after.round

count-filter-le : (p q : ℕ × ℕ → Bool) (links : List (ℕ × ℕ))
    → count_by q (filter (λ l. not (p l)) links) ≤ count_by q links
count-filter-le p q links =
    let weight : ℕ × ℕ → ℕ = λ y. weigh (q y) in
    omega (arith, sum_by-filter_both (λ l. not (p l)) p (λ l. not_twice_is (p l)) weight links)
  where
    not_twice_is : (b : Bool) → b ≡ not (not b)
    not_twice_is true = refl
    not_twice_is false = refl

pub cut_net : (n : ℕ) (links : List (ℕ × ℕ)) (u v : ℕ) → IsNet n links → IsNet n (without u v links)
cut_net n links u v net =
    let kept : ℕ × ℕ → Bool = λ l. not (is_between u v l) in
    record {
      in_range = All-filter kept (λ (l : ℕ × ℕ). (l.0 < n) × (l.1 < n)) links net.in_range;
      no_self = All-filter kept (λ (l : ℕ × ℕ). ¬ (l.0 ≡ l.1)) links net.no_self;
      single = λ k d l.
          let link = get_or (without u v links) k d in
          let once = All-filter kept (λ (y : ℕ × ℕ). count_by (is_between y.0 y.1) links ≡ 1) links net.single k d l in
          omega (
            arith,
            once,
            count-filter-le (is_between u v) (is_between link.0 link.1) links,
            one_passes (is_between link.0 link.1) (without u v links) k d l (is_between_itself link),
          );
      acyclic = λ a vs h. net.acyclic a vs
          (walk_carries (without u v links) links (λ x y c. from_filter kept links (x, y) c) a vs h);
    }

edited_net : (s : State) (net : Network) → net.nodes ≡ s.nodes → IsNet net.nodes net.links → IsNet s.nodes net.links
edited_net s net same is = subst (λ (n : ℕ). IsNet n net.links) same is

pub begins_net : (s : State) (change : Change) (first : List (ℕ × ℕ)) (d : ℕ) → IsAfterRound s
    → BeginsWith s change first d → IsNet s.nodes first
begins_net s (Cut u v) first d after b = subst (IsNet s.nodes) (sym b.1) (cut_net s.nodes s.links u v (here s after))
begins_net s (Add u v) first d after b = subst (IsNet s.nodes) (sym b.1) b.0.is_net
begins_net s (Join u v) first d after ((net, made, links), dest) =
    let is = made_net s (edit.Join u v ∷ []) net after (net, (made, refl)) in
    subst (IsNet s.nodes) (sym links) (edited_net s net (joined_nodes s.nodes s.links u v net made) is)
begins_net s (Batch edits) first d after (few, (net, made, links), dest) =
    let is = made_net s edits.items net after made in
    subst (IsNet s.nodes) (sym links) (edited_net s net (made_nodes (net_at s) edits.items net made) is)
begins_net s (Destination to) first d after b = subst (IsNet s.nodes) (sym b.1) (here s after)

pub begins_below : (s : State) (change : Change) (first : List (ℕ × ℕ)) (d : ℕ) → IsAfterRound s
    → BeginsWith s change first d → d < s.nodes
begins_below s (Cut u v) first d after b = omega (arith, b.2, after.dest)
begins_below s (Add u v) first d after b = omega (arith, b.2, after.dest)
begins_below s (Join u v) first d after b = omega (arith, b.1, after.dest)
begins_below s (Batch edits) first d after b = omega (arith, b.2, after.dest)
begins_below s (Destination to) first d after b = omega (arith, b.0, b.2)
