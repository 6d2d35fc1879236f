-- How far two tables have been compared. For proofs only.
use Rattle.std.specs.Prelude.{◌≡◌, ℕ, ◌<◌, ◌++◌, ◌↔◌, Bool, true, false, List, [], ◌∷◌, Contains, cond, filter, length}
use Rattle.std.specs.Prelude.{replicate, slice_index_or}
use Rattle.std.specs.List.{range_with_len}
use Rattle.fr_ways.specs.Faults.{ArePushes}
use Rattle.fr_ways.specs.Phases.{empties, grows, kept, sheds}
use Rattle.fr_ways.specs.Ways.{ways}
use Rattle.fr_ways.specs.declared.kept_ways.Comparison.{Comparison}
use Rattle.fr_ways.specs.declared.plan.Plan.{Plan}
use Rattle.fr_ways.specs.declared.plan.Pushes.{Pushes}

-- exactly those of these ways that name a node are noted
abbrev pub AreNoted : List ℕ → List Bool → Type 0
AreNoted list noted = (y : ℕ) → y < length noted → (slice_index_or noted y false ≡ true) ↔ Contains list y

-- no node is noted
abbrev pub IsClear : ℕ → Comparison → Type 0
IsClear nodes spare = spare.noted.items ≡ replicate nodes false

-- the same pushes, and if the test holds one to x with this list
pub record IsPushedIf (test : Bool) (x : ℕ) (list : List ℕ) (before after : Pushes) : Type 0 where
  pub nodes : after.nodes.items ≡ before.nodes.items ++ cond test (x ∷ []) []
  pub lists : after.lists ≡ before.lists ++ cond test (list ∷ []) []

-- what has to be pushed to the nodes below this one
pub record IsPlan (old new : List (List ℕ)) (below : ℕ) (plan : Plan) : Type 0 where
  pub shrink : ArePushes (filter (sheds old new) (range_with_len 0 below)) (kept old new) plan.phases.shrink
  pub emptied : plan.emptied.items ≡ filter (empties old new) (range_with_len 0 below)
  pub grow : ArePushes (filter (grows old new) (range_with_len 0 below)) (ways new) plan.phases.grow
