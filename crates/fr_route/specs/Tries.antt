-- What a router does with edits or a change, by any way to settle networks. For proofs only.
use Rattle.std.specs.Prelude.{◌≡◌, ◌≢◌, ℕ, List, [], ◌∷◌, Result, Ok, Err, IfOk, IfErr, OnErr}
use Rattle.fr_graph.specs.Batches.{AreMade}
use Rattle.fr_graph.specs.Network.{Network}
use Rattle.fr_graph.specs.declared.edit.Edit.{Edit}
use Rattle.fr_ways.specs.Changes.{KeepsPushes}
use Rattle.fr_route.specs.Changes.{IsChanged, IsPlaced, IsUndone}
use Rattle.fr_route.specs.Listing.{AsksWays, IsListing, nodes_told, ways_told}
use Rattle.fr_route.specs.Outcomes.{IsEdited, IsOutcome}
use Rattle.fr_route.specs.Reroutes.{AreRerouted}
use Rattle.fr_route.specs.States.{State, IsReport, state_with}
use Rattle.fr_route.specs.WayPushes.{AreWayChanges}
use Rattle.fr_route.specs.declared.change.Change.{Change}
use Rattle.fr_route.specs.declared.change.Report.{Report}
use Rattle.fr_route.specs.declared.fault.RouteFault.{RouteFault}
use Rattle.fr_route.specs.declared.fault.RouteFault.TheVariants.{Start, Memory}
use Rattle.fr_route.specs.declared.fault.NotMade.{NotMade}
use Rattle.fr_route.specs.declared.outcome.Outcome.{Outcome}
use Rattle.fr_route.specs.declared.revision.Revision.{Revision}
use Rattle.fr_route.specs.declared.changed_nodes.ChangedNodes.{ChangedNodes}

-- what is attempted in a state: the states that it can lead to, and why it can fail
pub record Trial : Type 1 where
  pub Made : State → Type 0
  pub Undone : NotMade → Type 0

-- edits, and a destination after them
abbrev pub edits_of : State → List Edit → ℕ → Trial
edits_of s edits d = record { Made = IsEdited s edits d; Undone = IsPlaced s edits d }

abbrev pub revision_of : State → Revision → Trial
revision_of s revision = edits_of s revision.edits.now revision.dest

-- one edit, and a destination after it
abbrev pub edit_of : State → Edit → ℕ → Trial
edit_of s edit d = edits_of s (edit ∷ []) d

-- a change
abbrev pub change_of : State → Change → Trial
change_of s change = record { Made = IsChanged s change; Undone = IsUndone s change }

-- a missing allocation
abbrev pub missing_memory : NotMade
missing_memory = record { at = 0; fault = Memory }

-- the result without the place of the refused edit
abbrev pub without_place : {T : Type 0} → Result T NotMade → Result T RouteFault
without_place (Ok answer) = Ok answer
without_place (Err undone) = Err undone.fault

-- The attempt succeeded, and the answer is the report; or it failed, and nothing has changed. With `never`, the way to
-- settle starts no thread. If there is a list, it has the rerouted nodes, and if there are notes, they have the pushes of
-- both phases.
pub record IsTried (never : Type 0) (trial : Trial) (s : State) (told : ChangedNodes) (answer : Result Report NotMade)
    (next : State) (more : ChangedNodes) : Type 0 where
  pub made : IfOk answer (λ _. trial.Made next)
  pub report : IfOk answer (λ report. IsReport next report.turned report.cut)
  pub rerouted : IfOk answer (λ _. IsListing told → AreRerouted s next (nodes_told more))
  pub ways : IfOk answer (λ _. AsksWays told → AreWayChanges s next (ways_told more).shrink (ways_told more).grow)
  pub asks : AsksWays told → AsksWays more
  pub fault : IfErr answer trial.Undone
  pub unchanged : OnErr answer (next ≡ s)
  pub untold : OnErr answer (nodes_told more ≡ nodes_told told)
  pub untold_ways : OnErr answer (KeepsPushes (ways_told told) (ways_told more))
  pub no_start : never → IfErr answer (λ undone. undone.fault ≢ Start)

-- The edits are made in a network, and the outcome is that of the round on it; or they are not made, in any state with
-- this network, and nothing has changed.
pub record AreTried (never : Type 0) (net : Network) (revision : Revision) (answer : Result Outcome NotMade)
    (next : Network) : Type 0 where
  pub made : IfOk answer (λ outcome. AreMade net revision.edits.now next × IsOutcome next revision.dest outcome)
  pub fault : (d : ℕ) (counts : List ℕ)
      → IfErr answer (IsPlaced (state_with net d counts) revision.edits.now revision.dest)
  pub unchanged : OnErr answer (next ≡ net)
  pub no_start : never → IfErr answer (λ undone. undone.fault ≢ Start)
