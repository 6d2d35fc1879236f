-- The room that a report of changed ways needs.
use Rattle.std.proofs.Common.{List, Some, ap, arith, length, max, subst, ℕ, ◌*◌, ◌+◌, ◌<◌, ◌≡◌, ◌≤◌}
use Rattle.fr_graph.specs.Batches.{AreMade}
use Rattle.fr_graph.specs.Counts.{links_at}
use Rattle.fr_graph.specs.Links.{IsNet}
use Rattle.std.proofs.lemmas.List.Sorted.{length_permutation}
use Rattle.fr_graph.specs.Network.{Network}
use Rattle.fr_graph.specs.Order.{in_order}
use Rattle.fr_graph.proofs.Ordering.{in_order_permutes}
use Rattle.fr_graph.proofs.TurnedLinks.{length-links_at}
use Rattle.fr_graph.specs.declared.edit.Edit.{Edit}
use Rattle.fr_nearest.proofs.Counting.{ways_within}
use Rattle.fr_ways.specs.Held.{all_ways}
use Rattle.fr_ways.proofs.Changing.{growths_fit, growths_short, shrinks_fit, shrinks_short}
use Rattle.fr_route.specs.NodeWays.{AreWaysBelow}
use Rattle.fr_route.specs.Reroutes.{AreReplacedWays}
use Rattle.fr_route.specs.Rooms.{lists_size}
use Rattle.fr_route.specs.States.{IsRound, State, net_at}
use Rattle.fr_route.specs.WayPushes.{AreWayChanges}
use Rattle.fr_route.proofs.Changing.{made_nodes}
use Rattle.fr_route.proofs.RoundEnds.{lawful}
use Rattle.fr_route.proofs.Touched.{edits_at}

-- a change replaces the ways of all nodes
pub change_replaces : (s new : State) → new.nodes ≡ s.nodes → (shrink grow : List (ℕ × List ℕ))
    → AreWayChanges s new shrink grow → AreReplacedWays (Some s) new shrink grow
change_replaces s new same shrink grow is =
    let all : new.nodes ≡ max new.nodes s.nodes = omega (arith, same) in
    record {
      before = is.before;
      after = is.after;
      were = is.were;
      are = subst (λ (n : ℕ). AreWaysBelow new n is.after) all is.are;
      shrinks = is.shrinks;
      grows = is.grows;
    }

-- the pushes of a change are few
changes_size : (s new : State) (shrink grow : List (ℕ × List ℕ)) → AreWayChanges s new shrink grow
    → lists_size shrink + lists_size grow ≤ 32 * new.nodes + 22 * length new.links
changes_size s new shrink grow is =
    let few = ways_within new.links new.dest is.after (λ x low. is.are.each x (omega (arith, low, is.are.one_each))) in
    omega (
      arith,
      few,
      is.are.one_each,
      ap length is.shrinks,
      ap (λ (ps : List (ℕ × List ℕ)). length (all_ways ps)) is.shrinks,
      ap length is.grows,
      ap (λ (ps : List (ℕ × List ℕ)). length (all_ways ps)) is.grows,
      shrinks_short is.before is.after,
      shrinks_fit is.before is.after,
      growths_short is.before is.after,
      growths_fit is.before is.after,
    )

-- a round keeps the number of links
round_length : (n d : ℕ) (first : List (ℕ × ℕ)) (s : State) → IsNet n first → d < n → IsRound n d first s
    → length s.links ≡ length first
round_length n d first s net low round = omega (
  arith,
  ap length round.links,
  length_permutation (links_at first s.counts) (in_order (links_at first s.counts))
      (in_order_permutes (links_at first s.counts)),
  length-links_at first s.counts (lawful n d first s net low round).kept,
)

pub edits_size : (s new : State) (edits : List Edit) (d : ℕ) (net : Network) → IsNet s.nodes s.links → d < s.nodes
    → AreMade (net_at s) edits net → IsRound net.nodes d net.links new → (shrink grow : List (ℕ × List ℕ))
    → AreWayChanges s new shrink grow
    → lists_size shrink + lists_size grow ≤ 32 * s.nodes + 22 * (length s.links + length edits)
edits_size s new edits d net is_net low made round shrink grow is =
    let at = edits_at (net_at s) edits net is_net made in
    let nodes = made_nodes (net_at s) edits net made in
    omega (
      arith,
      changes_size s new shrink grow is,
      nodes,
      round.nodes,
      at.few,
      round_length net.nodes d net.links new at.is_net (omega (arith, low, nodes)) round,
    )
