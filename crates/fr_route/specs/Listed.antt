-- The pushes of two phases as they are written. For proofs only.
use Rattle.std.specs.Prelude.{ℕ, List}
use Rattle.fr_ways.specs.PushLists.{AreListed}
use Rattle.fr_route.specs.declared.listed_phases.ListedPhases.{ListedPhases}

-- the lists have these pushes
pub record ArePhasesListed (shrink grow : List (ℕ × List ℕ)) (lists : ListedPhases) : Type 0 where
  pub first : AreListed shrink lists.shrink
  pub second : AreListed grow lists.grow
