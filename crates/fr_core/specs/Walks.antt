-- Walks over links in either direction, and their away numbers (J. Welch and J. Walter, "Link Reversal Algorithms",
-- 2011).
use Rattle.std.specs.Prelude.{◌≡◌, ℕ, ◌+◌, ◌≤◌, ◌⊎◌, List, [], ◌∷◌}
use Rattle.fr_graph.specs.Links.{Points}

-- A walk from u along these nodes ends at x. Its away number is the number of its steps along a link, from tail to
-- head. (In a network, no step goes both along a link and against one, so a walk has only one away number.)
abbrev pub IsUndirectedWalk : List (ℕ × ℕ) → ℕ → List ℕ → ℕ → ℕ → Type 0
IsUndirectedWalk links u [] away x = (x ≡ u) × (away ≡ 0)
IsUndirectedWalk links u (v ∷ vs) away x =
    (Points links u v × ((rest : ℕ) × (away ≡ rest + 1) × IsUndirectedWalk links v vs rest x))
    ⊎ (Points links v u × IsUndirectedWalk links v vs away x)

-- some walk from d to x has this away number
abbrev pub HasUndirectedWalk : List (ℕ × ℕ) → ℕ → ℕ → ℕ → Type 0
HasUndirectedWalk links d x away = (vs : List ℕ) × IsUndirectedWalk links d vs away x

-- a walk leads from d to x; the walk without steps leads from d to d. In the literature, d and x are connected
abbrev pub IsConnected : List (ℕ × ℕ) → ℕ → ℕ → Type 0
IsConnected links d x = (away : ℕ) × HasUndirectedWalk links d x away

-- the least away number of the walks from d to x
pub record IsLeastAway (links : List (ℕ × ℕ)) (d x k : ℕ) : Type 0 where
  pub reached : HasUndirectedWalk links d x k
  pub least : (away : ℕ) → HasUndirectedWalk links d x away → k ≤ away
