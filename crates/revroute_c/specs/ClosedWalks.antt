-- The cycle for which edits or a network are refused, and when there is none. This project's own.
use Rattle.std.specs.Prelude.{◌≡◌, ℕ, ◌<◌, ◌≤◌, ◌⊎◌, List, length, map, Option, Some, None}
use Rattle.fr_graph.specs.Batches.{AreMade, IsRefusedAt}
use Rattle.fr_graph.specs.Evidence.{NamesFirst, NamesInBatch}
use Rattle.fr_graph.specs.Faults.{IsFaultless, IsFirstFault}
use Rattle.fr_graph.specs.Limits.{most_edits}
use Rattle.fr_graph.specs.Network.{Network}
use Rattle.fr_graph.specs.declared.fault.NetFault.{NetFault}
use Rattle.fr_graph.specs.declared.fault.NetFault.TheVariants.{TooMany, Range, SelfLink, Twice, Cycle, NoLink, Memory}
use Rattle.fr_route.specs.States.{State, net_at}
use Rattle.revroute_c.specs.Records.{AreKnown, edit_of}
use Rattle.revroute_c.specs.declared.records.LinkEdit.{LinkEdit}

-- the fault is the cycle of these nodes, with the first one again at the end
abbrev pub IsWalkOf : NetFault → List ℕ → Type 0
IsWalkOf TooMany nodes = ⊥
IsWalkOf (Range x) nodes = ⊥
IsWalkOf (SelfLink x) nodes = ⊥
IsWalkOf (Twice u v) nodes = ⊥
IsWalkOf (Cycle walk) nodes = nodes ≡ walk.items
IsWalkOf NoLink nodes = ⊥
IsWalkOf Memory nodes = ⊥

-- the fault is not a cycle
abbrev pub IsNoWalk : NetFault → Type 0
IsNoWalk TooMany = Unit {0}
IsNoWalk (Range x) = Unit {0}
IsNoWalk (SelfLink x) = Unit {0}
IsNoWalk (Twice u v) = Unit {0}
IsNoWalk (Cycle walk) = ⊥
IsNoWalk NoLink = Unit {0}
IsNoWalk Memory = Unit {0}

-- these nodes are the cycle for which an edit of the network is refused, the first edit that is refused
pub record IsWalkOfEdit (net : Network) (edits : List LinkEdit) (nodes : List ℕ) : Type 0 where
  pub at : ℕ
  pub fault : NetFault
  pub refused : IsRefusedAt net (map edit_of edits) at fault
  pub names : NamesInBatch net (map edit_of edits) (record { at = at; fault = fault })
  pub walk : IsWalkOf fault nodes

-- these nodes are the cycle for which a change of a session is refused
abbrev pub IsWalkOfChange : Option State → List LinkEdit → List ℕ → Type 0
IsWalkOfChange None edits nodes = ⊥
IsWalkOfChange (Some s) edits nodes = AreKnown edits × (length edits ≤ most_edits) × IsWalkOfEdit (net_at s) edits nodes

-- the edits are made, or the first one that is refused has another fault
abbrev pub EndWithoutWalk : Network → List LinkEdit → Type 0
EndWithoutWalk net edits =
    ((after : Network) × AreMade net (map edit_of edits) after)
    ⊎ ((at : ℕ) × (fault : NetFault) × IsRefusedAt net (map edit_of edits) at fault × IsNoWalk fault)

-- a change is not refused for a cycle: an edit has an unknown kind, there are too many edits, or they end without a
-- cycle
abbrev pub HasNoWalkOfChange : Option State → List LinkEdit → Type 0
HasNoWalkOfChange None edits = ⊥
HasNoWalkOfChange (Some s) edits = ¬ AreKnown edits ⊎ (most_edits < length edits) ⊎ EndWithoutWalk (net_at s) edits

-- these nodes are the cycle for which a network is refused
abbrev pub IsWalkOfNetwork : ℕ → List (ℕ × ℕ) → List ℕ → Type 0
IsWalkOfNetwork n links nodes =
    (fault : NetFault) × IsFirstFault n links fault × NamesFirst n links fault × IsWalkOf fault nodes

-- a network is not refused for a cycle: its links have no fault, or another one
abbrev pub HasNoWalkOfNetwork : ℕ → List (ℕ × ℕ) → Type 0
HasNoWalkOfNetwork n links = IsFaultless n links ⊎ ((fault : NetFault) × IsFirstFault n links fault × IsNoWalk fault)
