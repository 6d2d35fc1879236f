-- How walks are followed to find a loop. For proofs only.
use Rattle.std.specs.Prelude.{◌≡◌, ℕ, ◌<◌, ◌≤◌, ◌⊎◌, ◌↔◌, ◌++◌, All, List, [], ◌∷◌, Contains, drop, length}
use Rattle.std.specs.Prelude.{slice_index, slice_index_or, nat_eq}
use Rattle.std.specs.List.{IsDistinct}
use Rattle.fr_tables.specs.Inside.{IsTrail}
use Rattle.fr_tables.specs.Tables.{IsInRange, IsLoop, IsOnLoop, SendsOn}
use Rattle.fr_tables.specs.declared.hop.Hop.{Hop}
use Rattle.fr_tables.specs.declared.loops.Mark.{Mark}
use Rattle.fr_tables.specs.declared.loops.Mark.TheVariants.{OffLoop, OnLoop, OnWalk, Unmet}

abbrev pub seen : List Mark → ℕ → Mark
seen marks x = slice_index_or marks x Unmet

-- no walk is being followed, and each met node is known to be on a loop or on none. Walks lead from met nodes to met
-- nodes
pub record AreDecided (table : List Hop) (marks : List Mark) : Type 0 where
  pub one_each : length marks ≡ length table
  pub range : IsInRange table
  pub idle : (x : ℕ) → ¬ (seen marks x ≡ OnWalk)
  pub on : (x : ℕ) → seen marks x ≡ OnLoop → IsOnLoop table x
  pub off : (x : ℕ) → seen marks x ≡ OffLoop → ¬ IsOnLoop table x
  pub closed : (x y : ℕ) → ¬ (seen marks x ≡ Unmet) → SendsOn table x y → ¬ (seen marks y ≡ Unmet)

-- the walk from x was followed as far as no node was met before: exactly its nodes from `start` on are on a loop
pub record IsTraced (table : List Hop) (before after : List Mark) (walk : List ℕ) (x start : ℕ) : Type 0 where
  pub one_each : length after ≡ length before
  pub within : start ≤ length walk
  pub inside : All (λ (y : ℕ). y < length table) walk
  pub once : IsDistinct nat_eq walk
  pub others : (y : ℕ) → ¬ Contains walk y → seen after y ≡ seen before y
  pub closed : (y z : ℕ) → Contains walk y → SendsOn table y z → Contains walk z ⊎ ¬ (seen before z ≡ Unmet)
  pub off : (i : ℕ) → i < start → ¬ IsOnLoop table (slice_index walk i)
  pub on : start < length walk → IsLoop table (drop start walk)
  pub begins : seen before x ≡ Unmet → (rest : List ℕ) × (walk ≡ x ∷ rest)

-- exactly these nodes get this mark
pub record AreMarkedAs (mark : Mark) (nodes : List ℕ) (before after : List Mark) : Type 0 where
  pub one_each : length after ≡ length before
  pub these : (x : ℕ) → Contains nodes x → seen after x ≡ mark
  pub others : (x : ℕ) → ¬ Contains nodes x → seen after x ≡ seen before x

-- exactly the nodes of the walk have its mark, each once, and the others are marked as before it
pub record IsHeld (table : List Hop) (before marks : List Mark) (walk : List ℕ) : Type 0 where
  pub one_each : length marks ≡ length table
  pub these : (y : ℕ) → Contains walk y ↔ (seen marks y ≡ OnWalk)
  pub fresh : (y : ℕ) → Contains walk y → seen before y ≡ Unmet
  pub others : (y : ℕ) → ¬ Contains walk y → seen marks y ≡ seen before y
  pub once : IsDistinct nat_eq walk

-- the walk from x is being followed, and has come to `at`
pub record IsTracing (table : List Hop) (before marks : List Mark) (walk : List ℕ) (x at : ℕ) : Type 0 where
  pub held : IsHeld table before marks walk
  pub low : at < length table
  pub trail : IsTrail table (walk ++ at ∷ [])
  pub begins : (rest : List ℕ) × (walk ++ at ∷ [] ≡ x ∷ rest)
