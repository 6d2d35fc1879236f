-- Which fault a list of links has first, in the order in which the faults are tested. This project's own.
use Rattle.std.specs.Prelude.{◌≡◌, ℕ, ◌<◌, ◌≤◌, ◌⊎◌, List, length}
use Rattle.std.specs.List.{Contains, Any, count_by}
use Rattle.std.specs.List.Sorted.{IsPermutation}
use Rattle.fr_graph.specs.Limits.{most_nodes, most_links, IsWithinLimits}
use Rattle.fr_graph.specs.Links.{IsNet, AreBelow, HasNoSelfLink, AreSingle, IsCycle, is_between}
use Rattle.fr_graph.specs.Network.{Network, net_of}
use Rattle.fr_graph.specs.declared.fault.NetFault.{NetFault}
use Rattle.fr_graph.specs.declared.fault.NetFault.TheVariants.{TooMany, Range, SelfLink, Twice, Cycle, NoLink, Memory}

-- there are more nodes or more links than the limits allow
abbrev pub IsTooLarge : ℕ → List (ℕ × ℕ) → Type 0
IsTooLarge n links = (most_nodes < n) ⊎ (most_links < length links)

-- there is a node, and every link joins two nodes below n
pub record IsInRange (n : ℕ) (links : List (ℕ × ℕ)) : Type 0 where
  pub some : 0 < n
  pub below : AreBelow n links

-- x is 0 and there are no nodes, or x is an end of a link and not a node
abbrev pub IsOutOfRange : ℕ → List (ℕ × ℕ) → ℕ → Type 0
IsOutOfRange n links x = ((n ≡ 0) × (x ≡ 0)) ⊎ ((0 < n) × (n ≤ x) × Any (λ (l : ℕ × ℕ). (l.0 ≡ x) ⊎ (l.1 ≡ x)) links)

-- the links have this fault, and none that is tested before it. `NoLink` and `Memory` are not faults of links
abbrev pub IsFirstFault : ℕ → List (ℕ × ℕ) → NetFault → Type 0
IsFirstFault n links TooMany = IsTooLarge n links
IsFirstFault n links (Range x) = IsWithinLimits n links × IsOutOfRange n links x
IsFirstFault n links (SelfLink u) = IsWithinLimits n links × IsInRange n links × Contains links (u, u)
IsFirstFault n links (Twice u v) = IsWithinLimits n links × IsInRange n links × HasNoSelfLink links
    × (2 ≤ count_by (is_between u v) links)
IsFirstFault n links (Cycle walk) = IsWithinLimits n links × IsInRange n links × HasNoSelfLink links
    × AreSingle links × IsCycle links walk.items
IsFirstFault n links NoLink = ⊥
IsFirstFault n links Memory = ⊥

-- the links have no fault that is tested without memory
pub record PassFirstTests (n : ℕ) (links : List (ℕ × ℕ)) : Type 0 where
  pub limits : IsWithinLimits n links
  pub range : IsInRange n links
  pub clear : HasNoSelfLink links

-- the place of a fault in the order of the tests
abbrev pub fault_place : NetFault → ℕ
fault_place TooMany = 0
fault_place (Range x) = 1
fault_place (SelfLink u) = 2
fault_place (Twice u v) = 3
fault_place (Cycle walk) = 4
fault_place NoLink = 5
fault_place Memory = 6

-- the links have none of the faults
pub record IsFaultless (n : ℕ) (links : List (ℕ × ℕ)) : Type 0 where
  pub limits : IsWithinLimits n links
  pub some : 0 < n
  pub is_net : IsNet n links

-- the network of these links, which have none of the faults, in order
pub record IsNetworkOf (n : ℕ) (listed : List (ℕ × ℕ)) (net : Network) : Type 0 where
  pub is : net ≡ net_of n listed
  pub same_links : IsPermutation listed net.links
  pub faultless : IsFaultless n listed
