-- What a change makes of a state, and why a change is refused. This project's own; failed and added links are those of
-- Gafni and Bertsekas (1981).
use Rattle.std.specs.Prelude.{ℕ, ◌<◌, ◌≤◌, List, [], ◌∷◌, ◌++◌, length, replicate}
use Rattle.fr_graph.specs.Batches.{AreMade, IsBatchFault}
use Rattle.fr_graph.specs.Edits.{IsCutFault, IsJoined, IsJoinFault, without}
use Rattle.fr_graph.specs.Evidence.{NamesInBatch, NamesOfLink}
use Rattle.fr_graph.specs.Faults.{IsFirstFault, IsFaultless}
use Rattle.fr_graph.specs.Limits.{most_edits}
use Rattle.fr_graph.specs.Links.{Joins}
use Rattle.fr_graph.specs.Network.{Network}
use Rattle.fr_graph.specs.declared.fault.NetFault.{NetFault}
use Rattle.fr_graph.specs.declared.edit.Edit.{Edit}
use Rattle.fr_graph.specs.declared.edit.Edit.TheVariants as edit
use Rattle.fr_core.specs.Settled.{AreSettled}
use Rattle.fr_route.specs.States.{State, IsRound, net_at}
use Rattle.fr_route.specs.declared.change.Change.{Change}
use Rattle.fr_route.specs.declared.change.Change.TheVariants.{Cut, Add, Join, Batch, Destination}
use Rattle.fr_route.specs.declared.fault.NotMade.{NotMade}
use Rattle.fr_route.specs.declared.fault.RouteFault.{RouteFault}
use Rattle.fr_route.specs.declared.fault.RouteFault.TheVariants.{Net, Range, Start, Memory}

-- the edits are made, and `new` is the state after the round on the resulting network
abbrev pub IsBatch : State → List Edit → State → Type 0
IsBatch s edits new =
    (length edits ≤ most_edits)
    × ((net : Network) × (AreMade (net_at s) edits net × IsRound net.nodes s.dest net.links new))

-- `new` is the state after the round on the network with u and v joined
abbrev pub IsAfterJoin : State → ℕ → ℕ → State → Type 0
IsAfterJoin s u v new = (net : Network) × (IsJoined s.nodes s.links u v net × IsRound net.nodes s.dest net.links new)

-- the destination is a node, and `new` is the state after the round towards it
abbrev pub IsMoved : State → ℕ → State → Type 0
IsMoved s d new = (d < s.nodes) × IsRound s.nodes d s.links new

-- The change is accepted, and `new` is the state after the round on the changed links. A cut is accepted if there is a
-- link, an added link if the links with it have no fault, a join if the link can point in one of the two directions, a
-- batch if none of its edits is refused, and a destination if it is a node.
abbrev pub IsChanged : State → Change → State → Type 0
IsChanged s (Cut u v) new = Joins s.links u v × IsRound s.nodes s.dest (without u v s.links) new
IsChanged s (Add u v) new =
    IsFaultless s.nodes (s.links ++ (u, v) ∷ []) × IsRound s.nodes s.dest (s.links ++ (u, v) ∷ []) new
IsChanged s (Join u v) new = IsAfterJoin s u v new
IsChanged s (Batch edits) new = IsBatch s edits.items new
IsChanged s (Destination d) new = IsMoved s d new

-- the edits are refused with this fault, at this place, and the fault names exactly what `NamesInBatch` says
abbrev pub AreRefused : Network → List Edit → ℕ → NetFault → Type 0
AreRefused net edits at fault =
    IsBatchFault net edits (record { at = at; fault = fault })
    × NamesInBatch net edits (record { at = at; fault = fault })

-- the change is refused with this fault, and the fault of an added link, a join or a batch names exactly what
-- `NamesOfLink` or `NamesInBatch` says
abbrev pub IsChangeFault : State → Change → NetFault → Type 0
IsChangeFault s (Cut u v) fault = IsCutFault s.links u v fault
IsChangeFault s (Add u v) fault =
    IsFirstFault s.nodes (s.links ++ (u, v) ∷ []) fault × NamesOfLink (net_at s) u v fault
IsChangeFault s (Join u v) fault = IsJoinFault s.nodes s.links u v fault × NamesOfLink (net_at s) u v fault
IsChangeFault s (Batch edits) fault = (at : ℕ) × AreRefused (net_at s) edits.items at fault
IsChangeFault s (Destination d) fault = ⊥

-- the change names a destination that is not a node
abbrev pub NamesNoNode : State → Change → Type 0
NamesNoNode s (Cut u v) = ⊥
NamesNoNode s (Add u v) = ⊥
NamesNoNode s (Join u v) = ⊥
NamesNoNode s (Batch edits) = ⊥
NamesNoNode s (Destination d) = s.nodes ≤ d

-- no node of the network can turn, with destination d: the settled counts are all 0
abbrev pub IsStill : Network → ℕ → Type 0
IsStill net d = AreSettled net.nodes d net.links (replicate net.nodes 0)

-- the edits are accepted, d is a node, and a node can turn on the resulting network
abbrev pub CanTurnAfter : State → List Edit → ℕ → Type 0
CanTurnAfter s edits d = (length edits ≤ most_edits) × (d < s.nodes)
    × ((net : Network) × (AreMade (net_at s) edits net × ¬ IsStill net d))

-- the change may need a thread: it is accepted, and a node can turn after it
abbrev pub MayStart : State → Change → Type 0
MayStart s (Cut u v) = CanTurnAfter s (edit.Cut u v ∷ []) s.dest
MayStart s (Add u v) = CanTurnAfter s (edit.Add u v ∷ []) s.dest
MayStart s (Join u v) = CanTurnAfter s (edit.Join u v ∷ []) s.dest
MayStart s (Batch edits) = CanTurnAfter s edits.items s.dest
MayStart s (Destination d) = CanTurnAfter s [] d

-- the change has no fault that is tested without memory: a batch is not too long, and a destination is a node
abbrev pub MayLackMemory : State → Change → Type 0
MayLackMemory s (Cut u v) = Unit {0}
MayLackMemory s (Add u v) = Unit {0}
MayLackMemory s (Join u v) = Unit {0}
MayLackMemory s (Batch edits) = length edits.items ≤ most_edits
MayLackMemory s (Destination d) = d < s.nodes

-- why a change fails: it is refused, or a thread or memory is missing
abbrev pub IsRouteFault : State → Change → RouteFault → Type 0
IsRouteFault s change (Net fault) = IsChangeFault s change fault
IsRouteFault s change Range = NamesNoNode s change
IsRouteFault s change Start = MayStart s change
IsRouteFault s change Memory = MayLackMemory s change

-- why edits are not made, with destination d after them: they are refused at this place, or a thread is missing, or
-- memory for edits within the limit
abbrev pub IsPlacedFault : State → List Edit → ℕ → ℕ → RouteFault → Type 0
IsPlacedFault s edits d at (Net fault) = AreRefused (net_at s) edits at fault
IsPlacedFault s edits d at Range = ⊥
IsPlacedFault s edits d at Start = CanTurnAfter s edits d
IsPlacedFault s edits d at Memory = length edits ≤ most_edits

abbrev pub IsPlaced : State → List Edit → ℕ → NotMade → Type 0
IsPlaced s edits d undone = IsPlacedFault s edits d undone.at undone.fault

-- why a change is not made, with the place of the refused edit of a batch
abbrev pub IsUndone : State → Change → NotMade → Type 0
IsUndone s (Cut u v) undone = IsRouteFault s (Cut u v) undone.fault
IsUndone s (Add u v) undone = IsRouteFault s (Add u v) undone.fault
IsUndone s (Join u v) undone = IsRouteFault s (Join u v) undone.fault
IsUndone s (Batch edits) undone = IsPlaced s edits.items s.dest undone
IsUndone s (Destination d) undone = IsRouteFault s (Destination d) undone.fault

-- why no router is opened: the destination is not a node, or a thread or memory is missing
abbrev pub IsOpenFault : ℕ → ℕ → RouteFault → Type 0
IsOpenFault n d (Net fault) = ⊥
IsOpenFault n d Range = n ≤ d
IsOpenFault n d Start = d < n
IsOpenFault n d Memory = d < n
