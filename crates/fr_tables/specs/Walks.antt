-- Walks from node to node, for any relation that says which node may send on to which. A cycle is a walk that comes
-- back to its first node. These are the walks and cycles of directed graphs; downstream means towards the destination.
use Rattle.std.specs.Prelude.{◌≡◌, ℕ, ◌++◌, List, [], ◌∷◌}

-- a walk from x along these nodes: each may send on to the next
abbrev pub IsWalk : (ℕ → ℕ → Type 0) → ℕ → List ℕ → Type 0
IsWalk sends x [] = Unit {0}
IsWalk sends x (y ∷ ys) = sends x y × IsWalk sends y ys

-- each of these nodes may send on to the next one
abbrev pub IsTrail : (ℕ → ℕ → Type 0) → List ℕ → Type 0
IsTrail sends [] = Unit {0}
IsTrail sends (x ∷ xs) = IsWalk sends x xs

-- the last node of the walk from x along these nodes
abbrev pub end_of : ℕ → List ℕ → ℕ
end_of x [] = x
end_of x (y ∷ ys) = end_of y ys

-- a cycle: each of these nodes may send on to the next, and the last to the first
abbrev pub IsCycle : (ℕ → ℕ → Type 0) → List ℕ → Type 0
IsCycle sends [] = ⊥
IsCycle sends (x ∷ xs) = IsWalk sends x (xs ++ x ∷ [])

-- there is no cycle
abbrev pub IsCycleFree : (ℕ → ℕ → Type 0) → Type 0
IsCycleFree sends = (nodes : List ℕ) → ¬ IsCycle sends nodes

-- y is downstream of x: a walk from x leads to it. Each node is downstream of itself
pub record IsDownstream (sends : ℕ → ℕ → Type 0) (x y : ℕ) : Type 0 where
  pub by : List ℕ
  pub goes : IsWalk sends x by
  pub ends : end_of x by ≡ y
