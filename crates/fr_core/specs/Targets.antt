-- Which turns and looks are refused, and which targets and schedules a machine accepts. This project's own.
use Rattle.std.specs.Prelude.{◌≡◌, ℕ, ◌<◌, ◌≤◌, ◌⊎◌, List, length, map, Some, slice_get, Vec}
use Rattle.std.specs.List.{All, Any}
use Rattle.fr_graph.specs.Links.{IsAlone, Joins}
use Rattle.fr_core.specs.declared.play_fault.PlayFault.{PlayFault}
use Rattle.fr_core.specs.declared.play_fault.PlayFault.TheVariants.{Range, BadTarget, Memory}
use Rattle.fr_core.specs.declared.targets.Target.{Target}
use Rattle.fr_core.specs.declared.targets.Target.TheVariants.{Turn, Look}

-- the lists of a list of vectors
module _ {A Z : Type 0} where
  abbrev pub lists_of : List (Vec A Z) → List (List A)
  lists_of vs = map (λ (v : Vec A Z). v.items) vs

-- a turn of x is refused: x is not a node, it is the destination, or it has no link
abbrev pub IsUnturnable : ℕ → ℕ → List (ℕ × ℕ) → ℕ → Type 0
IsUnturnable n d links x = (n ≤ x) ⊎ (x ≡ d) ⊎ IsAlone links x

-- a turn of x is not refused
pub record IsTurnable (n d : ℕ) (links : List (ℕ × ℕ)) (x : ℕ) : Type 0 where
  pub inside : x < n
  pub not_destination : ¬ (x ≡ d)
  pub linked : (w : ℕ) × Joins links x w

-- a look at x is refused: x is not a node, or has no link
abbrev pub IsUnlookable : ℕ → List (ℕ × ℕ) → ℕ → Type 0
IsUnlookable n links x = (n ≤ x) ⊎ IsAlone links x

-- a look at x is not refused
pub record IsLookable (n : ℕ) (links : List (ℕ × ℕ)) (x : ℕ) : Type 0 where
  pub inside : x < n
  pub linked : (w : ℕ) × Joins links x w

-- the node of a target
abbrev pub node_of : Target → ℕ
node_of (Turn x) = x
node_of (Look x) = x

abbrev pub IsTargetRefused : ℕ → ℕ → List (ℕ × ℕ) → Target → Type 0
IsTargetRefused n d links (Turn x) = IsUnturnable n d links x
IsTargetRefused n d links (Look x) = IsUnlookable n links x

-- no target of a list is refused, and no target of any worker's list
abbrev pub AreAccepted : ℕ → ℕ → List (ℕ × ℕ) → List Target → Type 0
AreAccepted n d links list = All (λ t. ¬ IsTargetRefused n d links t) list

abbrev pub AreAllAccepted : ℕ → ℕ → List (ℕ × ℕ) → List (List Target) → Type 0
AreAllAccepted n d links targets = All (AreAccepted n d links) targets

-- t is the target at place i of worker k
abbrev pub IsTarget : List (List Target) → ℕ → ℕ → Target → Type 0
IsTarget targets k i t = (list : List Target) × (slice_get targets k ≡ Some list) × (slice_get list i ≡ Some t)

-- by worker, and then by place
abbrev pub ComesBefore : ℕ → ℕ → ℕ → ℕ → Type 0
ComesBefore k i worker at = (k < worker) ⊎ ((k ≡ worker) × (i < at))

-- the first target that is refused
pub record IsFirstBadTarget (n d : ℕ) (links : List (ℕ × ℕ)) (targets : List (List Target))
    (worker at : ℕ) : Type 0 where
  pub target : Target
  pub here : IsTarget targets worker at target
  pub refused : IsTargetRefused n d links target
  pub first : (k i : ℕ) (t : Target) → IsTarget targets k i t → ComesBefore k i worker at
      → ¬ IsTargetRefused n d links t

-- the destination is not a node, or a number of the schedule is not a worker
abbrev pub IsPlayOutOfRange : ℕ → ℕ → List (List Target) → List ℕ → Type 0
IsPlayOutOfRange n d targets schedule = (n ≤ d) ⊎ Any (λ k. length targets ≤ k) schedule

-- the destination is a node, and each number of the schedule is a worker
pub record IsPlayInRange (n d : ℕ) (targets : List (List Target)) (schedule : List ℕ) : Type 0 where
  pub destination : d < n
  pub workers : All (λ k. k < length targets) schedule

-- a machine with these targets has this fault, and none that is tested before it. `Memory` is not a fault of targets
abbrev pub IsMachineFault : ℕ → ℕ → List (ℕ × ℕ) → List (List Target) → PlayFault → Type 0
IsMachineFault n d links targets Range = n ≤ d
IsMachineFault n d links targets (BadTarget worker at) = (d < n) × IsFirstBadTarget n d links targets worker at
IsMachineFault n d links targets Memory = ⊥

-- the same for a play under a schedule
abbrev pub IsPlayFault : ℕ → ℕ → List (ℕ × ℕ) → List (List Target) → List ℕ → PlayFault → Type 0
IsPlayFault n d links targets schedule Range = IsPlayOutOfRange n d targets schedule
IsPlayFault n d links targets schedule (BadTarget worker at) = IsPlayInRange n d targets schedule
    × IsFirstBadTarget n d links targets worker at
IsPlayFault n d links targets schedule Memory = ⊥

-- there is no fault
pub record IsPlayable (n d : ℕ) (links : List (ℕ × ℕ)) (targets : List (List Target)) (schedule : List ℕ) : Type 0 where
  pub in_range : IsPlayInRange n d targets schedule
  pub accepted : AreAllAccepted n d links targets
