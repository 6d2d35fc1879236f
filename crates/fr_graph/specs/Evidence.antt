-- The nodes that show a fault, and which ones a fault names if more than one choice would show it. The links and the
-- edit determine them. This project's own.
use Rattle.std.specs.Prelude.{◌≡◌, ◌≢◌, ℕ, ◌<◌, ◌≤◌, ◌+◌, ◌⊎◌, ◌==◌, nat_le, List, [], ◌∷◌}
use Rattle.std.specs.Prelude.{length, slice_index, drop, take, Some, count_by, find, flat_map}
use Rattle.std.specs.List.{HoldsAt}
use Rattle.fr_graph.specs.Batches.{AreMade}
use Rattle.fr_graph.specs.Links.{HasPath, IsClosedWalk, Points, is_between}
use Rattle.fr_graph.specs.Network.{Network}
use Rattle.fr_graph.specs.declared.fault.EditFault.{EditFault}
use Rattle.fr_graph.specs.declared.fault.NetFault.{NetFault}
use Rattle.fr_graph.specs.declared.fault.NetFault.TheVariants.{TooMany, Range, SelfLink, Twice, Cycle, NoLink, Memory}
use Rattle.fr_graph.specs.declared.fault.NotEdited.{NotEdited}
use Rattle.fr_graph.specs.declared.fault.NotEdited.TheVariants.{Refused, Fault}
use Rattle.fr_graph.specs.declared.edit.Edit.{Edit}
use Rattle.fr_graph.specs.declared.edit.Edit.TheVariants.{Cut, Add, Join}

-- the nodes that show the fault
abbrev pub evidence : NetFault → List ℕ
evidence TooMany = []
evidence (Range x) = x ∷ []
evidence (SelfLink u) = u ∷ []
evidence (Twice u v) = u ∷ v ∷ []
evidence (Cycle walk) = walk.items
evidence NoLink = []
evidence Memory = []

-- x is the lowest number with P
pub record IsLowest (P : ℕ → Type 0) (x : ℕ) : Type 0 where
  pub holds : P x
  pub least : (y : ℕ) → P y → x ≤ y

-- the ends of the links in listed order, the tail of each link before its head
abbrev pub ends_of : List (ℕ × ℕ) → List ℕ
ends_of links = flat_map (λ (l : ℕ × ℕ). l.0 ∷ l.1 ∷ []) links

-- more than one link joins u and v
abbrev pub AreJoinedTwice : List (ℕ × ℕ) → ℕ → ℕ → Type 0
AreJoinedTwice links u v = 2 ≤ count_by (is_between u v) links

-- links lead from x to a node of a cycle
pub record LeadsIntoCycle (links : List (ℕ × ℕ)) (x : ℕ) : Type 0 where
  pub node : ℕ
  pub path : HasPath links x node
  pub rest : List ℕ
  pub closed : IsClosedWalk links node rest

-- a step leads from each node of the way to the next one
abbrev pub IsWayBy : (ℕ → ℕ → Type 0) → List ℕ → Type 0
IsWayBy step way = (k : ℕ) → k + 1 < length way → step (slice_index way k) (slice_index way (k + 1))

-- of the nodes that links from x point to, y is the lowest one that leads into a cycle
abbrev pub LeadsIn : List (ℕ × ℕ) → ℕ → ℕ → Type 0
LeadsIn links x y = IsLowest (λ w. Points links x w × LeadsIntoCycle links w) y

-- A way begins at the lowest node that leads into a cycle, and always goes on to the lowest node that does. It ends
-- where it first comes to a node again. The cycle is the part of the way from that node on.
pub record IsLowestCycle (links : List (ℕ × ℕ)) (walk : List ℕ) : Type 0 where
  pub way : List ℕ
  pub last : ℕ
  pub whole : last + 1 ≡ length way
  pub begins : IsLowest (LeadsIntoCycle links) (slice_index way 0)
  pub goes_on : IsWayBy (LeadsIn links) way
  pub back : ℕ
  pub earlier : back < last
  pub again : slice_index way last ≡ slice_index way back
  pub first : (i j : ℕ) → i < j → j < last → slice_index way i ≢ slice_index way j
  pub is : walk ≡ drop back way

-- of the nodes that links from x point to, y is the lowest one from which links lead to u; x is not u itself
pub record LeadsTowards (links : List (ℕ × ℕ)) (u x y : ℕ) : Type 0 where
  pub apart : x ≢ u
  pub lowest : IsLowest (λ w. Points links x w × HasPath links w u) y

-- the walk goes from u to v and then, always to the lowest node from which links lead to u, to x
pub record IsLowestWay (links : List (ℕ × ℕ)) (u v x : ℕ) (walk : List ℕ) : Type 0 where
  pub way : List ℕ
  pub last : ℕ
  pub whole : last + 1 ≡ length way
  pub begins : slice_index way 0 ≡ v
  pub goes_on : IsWayBy (LeadsTowards links u) way
  pub ends : slice_index way last ≡ x
  pub is : walk ≡ u ∷ way

-- a link from u to v would close this cycle: the same walk, to u itself
abbrev pub IsLowestCycleBy : List (ℕ × ℕ) → ℕ → ℕ → List ℕ → Type 0
IsLowestCycleBy links u v = IsLowestWay links u v u

-- Of n nodes and these links, the fault names: the first end that is not a node, or 0 if there are no nodes; the first
-- link from a node to itself; the lowest node that is joined twice, and the lowest one that it is joined with twice;
-- the lowest cycle
abbrev pub NamesFirst : ℕ → List (ℕ × ℕ) → NetFault → Type 0
NamesFirst n links TooMany = Unit {0}
NamesFirst n links (Range x) = ((n ≡ 0) × (x ≡ 0)) ⊎ ((0 < n) × (find (nat_le n) (ends_of links) ≡ Some x))
NamesFirst n links (SelfLink u) = find (λ (l : ℕ × ℕ). l.0 == l.1) links ≡ Some (u, u)
NamesFirst n links (Twice u v) = IsLowest (λ x. (y : ℕ) × AreJoinedTwice links x y) u
    × IsLowest (AreJoinedTwice links u) v
NamesFirst n links (Cycle walk) = IsLowestCycle links walk.items
NamesFirst n links NoLink = Unit {0}
NamesFirst n links Memory = Unit {0}

-- if a link from u to v cannot be added, or one between them, the fault names: u if u is not a node, and otherwise v;
-- u if it is v; u and v if they are joined; the lowest cycle by the link from u to v
abbrev pub NamesOfLink : Network → ℕ → ℕ → NetFault → Type 0
NamesOfLink net u v TooMany = Unit {0}
NamesOfLink net u v (Range x) = ((net.nodes ≤ u) × (x ≡ u)) ⊎ ((u < net.nodes) × (x ≡ v))
NamesOfLink net u v (SelfLink x) = x ≡ u
NamesOfLink net u v (Twice x y) = (x ≡ u) × (y ≡ v)
NamesOfLink net u v (Cycle walk) = IsLowestCycleBy net.links u v walk.items
NamesOfLink net u v NoLink = Unit {0}
NamesOfLink net u v Memory = Unit {0}

-- the same if the edit is refused. A cut names no node
abbrev pub NamesOfEdit : Network → Edit → NetFault → Type 0
NamesOfEdit net (Cut u v) fault = Unit {0}
NamesOfEdit net (Add u v) fault = NamesOfLink net u v fault
NamesOfEdit net (Join u v) fault = NamesOfLink net u v fault

-- the same of the edit that is refused in a batch, on the network that the edits before it make
abbrev pub NamesInBatch : Network → List Edit → EditFault → Type 0
NamesInBatch net edits refused =
    (before : Network) → AreMade net (take refused.at edits) before
    → HoldsAt (λ edit. NamesOfEdit before edit refused.fault) edits refused.at

-- the same if `edit_if` fails
abbrev pub NamesIfRefused : {E : Type 0} → Network → List Edit → NotEdited E → Type 0
NamesIfRefused net edits (Refused refused) = NamesInBatch net edits refused
NamesIfRefused net edits (Fault fault) = Unit {0}
