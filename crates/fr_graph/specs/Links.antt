-- Directed links, and paths and cycles along them, as in E. Gafni and D. Bertsekas, "Distributed Algorithms for
-- Generating Loop-Free Routes in Networks with Frequently Changing Topology", 1981. The pair (u, v) is the link from
-- its tail u to its head v.
use Rattle.std.specs.Prelude.{◌≡◌, ℕ, ◌<◌, Bool, ◌==◌, ◌&&◌, ◌||◌, ◌⊎◌, ◌↔◌, List, [], ◌∷◌}
use Rattle.std.specs.List.{Contains, All, count_by}

-- a link points from u to v
abbrev pub Points : List (ℕ × ℕ) → ℕ → ℕ → Type 0
Points links u v = Contains links (u, v)

-- a link joins u and v, whichever way it points
abbrev pub Joins : List (ℕ × ℕ) → ℕ → ℕ → Type 0
Joins links u v = Points links u v ⊎ Points links v u

-- x has no link
abbrev pub IsAlone : List (ℕ × ℕ) → ℕ → Type 0
IsAlone links x = (w : ℕ) → ¬ Joins links x w

-- a path from u along the links, with these nodes after u
abbrev pub IsPath : List (ℕ × ℕ) → ℕ → List ℕ → Type 0
IsPath links u [] = Unit {0}
IsPath links u (v ∷ vs) = Points links u v × IsPath links v vs

-- the node at which the path from u with these nodes ends
abbrev pub end_of : ℕ → List ℕ → ℕ
end_of u [] = u
end_of u (v ∷ vs) = end_of v vs

-- a path along the links leads from x to y
abbrev pub HasPath : List (ℕ × ℕ) → ℕ → ℕ → Type 0
HasPath links x y = (vs : List ℕ) × (IsPath links x vs × (end_of x vs ≡ y))

-- a closed walk: at least one step along the links, and back to u
abbrev pub IsClosedWalk : List (ℕ × ℕ) → ℕ → List ℕ → Type 0
IsClosedWalk links u [] = ⊥
IsClosedWalk links u (v ∷ vs) = IsPath links u (v ∷ vs) × (end_of v vs ≡ u)

-- no closed walk follows the links: they contain no cycle
abbrev pub IsAcyclic : List (ℕ × ℕ) → Type 0
IsAcyclic links = (u : ℕ) (vs : List ℕ) → ¬ IsClosedWalk links u vs

-- a closed walk as a list of its nodes, with the first one again at the end
abbrev pub IsCycle : List (ℕ × ℕ) → List ℕ → Type 0
IsCycle links [] = ⊥
IsCycle links (u ∷ vs) = IsClosedWalk links u vs

-- whether the link joins u and v, whichever way it points
abbrev pub is_between : ℕ → ℕ → ℕ × ℕ → Bool
is_between u v link = ((link.0 == u) && (link.1 == v)) || ((link.0 == v) && (link.1 == u))

-- every link joins two nodes below n
abbrev pub AreBelow : ℕ → List (ℕ × ℕ) → Type 0
AreBelow n links = All (λ (l : ℕ × ℕ). (l.0 < n) × (l.1 < n)) links

-- no link joins a node with itself
abbrev pub HasNoSelfLink : List (ℕ × ℕ) → Type 0
HasNoSelfLink links = All (λ (l : ℕ × ℕ). ¬ (l.0 ≡ l.1)) links

-- no two links join the same two nodes
abbrev pub AreSingle : List (ℕ × ℕ) → Type 0
AreSingle links = All (λ (l : ℕ × ℕ). count_by (is_between l.0 l.1) links ≡ 1) links

-- these can be the links of a network of n nodes
pub record IsNet (n : ℕ) (links : List (ℕ × ℕ)) : Type 0 where
  pub in_range : AreBelow n links
  pub no_self : HasNoSelfLink links
  pub single : AreSingle links
  pub acyclic : IsAcyclic links

-- two lists have the same links, in any order
abbrev pub HaveSameLinks : List (ℕ × ℕ) → List (ℕ × ℕ) → Type 0
HaveSameLinks some other = (u v : ℕ) → Points some u v ↔ Points other u v
