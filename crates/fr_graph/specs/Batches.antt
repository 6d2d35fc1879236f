-- What a batch of edits makes of a network, and which edit is refused first. The edits are made in order. This
-- project's own.
use Rattle.std.specs.Prelude.{◌≡◌, ◌≢◌, ℕ, ◌<◌, ◌≤◌, ◌⊎◌, ◌++◌, List, [], ◌∷◌, length, take, Result, Err}
use Rattle.std.specs.List.{HoldsAt}
use Rattle.fr_graph.specs.Edits.{IsCutFault, IsJoined, IsJoinFault, without}
use Rattle.fr_graph.specs.Faults.{IsFirstFault, IsNetworkOf}
use Rattle.fr_graph.specs.Limits.{most_edits}
use Rattle.fr_graph.specs.Links.{Joins}
use Rattle.fr_graph.specs.Network.{Network}
use Rattle.fr_graph.specs.declared.fault.EditFault.{EditFault}
use Rattle.fr_graph.specs.declared.fault.NetFault.{NetFault}
use Rattle.fr_graph.specs.declared.fault.NetFault.TheVariants.{Memory, TooMany}
use Rattle.fr_graph.specs.declared.fault.NotEdited.{NotEdited}
use Rattle.fr_graph.specs.declared.fault.NotEdited.TheVariants.{Refused, Fault}
use Rattle.fr_graph.specs.declared.edit.Edit.{Edit}
use Rattle.fr_graph.specs.declared.edit.Edit.TheVariants.{Cut, Add, Join}

-- the edit makes `after` of `net`
abbrev pub IsMade : Network → Edit → Network → Type 0
IsMade net (Cut u v) after = Joins net.links u v × IsNetworkOf net.nodes (without u v net.links) after
IsMade net (Add u v) after = IsNetworkOf net.nodes (net.links ++ (u, v) ∷ []) after
IsMade net (Join u v) after = IsJoined net.nodes net.links u v after

-- the edits, one after the other, make `after` of `net`
abbrev pub AreMade : Network → List Edit → Network → Type 0
AreMade net [] after = after ≡ net
AreMade net (edit ∷ rest) after = (next : Network) × (IsMade net edit next × AreMade next rest after)

-- the edit is refused with this fault
abbrev pub IsEditFault : Network → Edit → NetFault → Type 0
IsEditFault net (Cut u v) fault = IsCutFault net.links u v fault
IsEditFault net (Add u v) fault = IsFirstFault net.nodes (net.links ++ (u, v) ∷ []) fault
IsEditFault net (Join u v) fault = IsJoinFault net.nodes net.links u v fault

-- the edit at this place is refused with this fault, on the network that the edits before it make
pub record IsRefusedAt (net : Network) (edits : List Edit) (at : ℕ) (fault : NetFault) : Type 0 where
  pub inside : at < length edits
  pub before : Network
  pub made : AreMade net (take at edits) before
  pub refused : HoldsAt (λ edit. IsEditFault before edit fault) edits at

-- the batch is refused: it has more edits than the limit, or one of its edits is refused
abbrev pub IsBatchFault : Network → List Edit → EditFault → Type 0
IsBatchFault net edits refused =
    ((most_edits < length edits) × (refused.at ≡ most_edits) × (refused.fault ≡ TooMany))
    ⊎ ((length edits ≤ most_edits) × IsRefusedAt net edits refused.at refused.fault)

-- memory is missing only for edits within the limit
abbrev pub AreFewIfMemory : {E : Type 0} → List Edit → NotEdited E → Type 0
AreFewIfMemory edits (Refused refused) = refused.fault ≡ Memory → length edits ≤ most_edits
AreFewIfMemory edits (Fault fault) = Unit {0}

-- why `edit_if` fails: an edit is refused, an allocation is refused, or `accept` fails on the edited network
abbrev pub IsNotEdited : {T E : Type 0} → Network → List Edit → (Network → Result T E → Type 0) → NotEdited E → Type 0
IsNotEdited net edits answers (Refused refused) = refused.fault ≢ Memory → IsBatchFault net edits refused
IsNotEdited net edits answers (Fault fault) = (made : Network)
    × (AreMade net edits made × ((length edits ≤ most_edits) × answers made (Err fault)))
