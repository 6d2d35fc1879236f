-- The nodes at which edits change links. For proofs only.
use Rattle.std.specs.Prelude.{ℕ, List, [], ◌∷◌}
use Rattle.fr_graph.specs.declared.edit.Edit.{Edit}
use Rattle.fr_graph.specs.declared.edit.Edit.TheVariants.{Cut, Add, Join}

-- the ends of the links that the edits remove or add
abbrev pub ends_of : List Edit → List ℕ
ends_of [] = []
ends_of (Cut u v ∷ rest) = u ∷ (v ∷ ends_of rest)
ends_of (Add u v ∷ rest) = u ∷ (v ∷ ends_of rest)
ends_of (Join u v ∷ rest) = u ∷ (v ∷ ends_of rest)
