-- Which nodes are ends of links. For proofs only.
use Rattle.std.specs.Prelude.{◌≡◌, ℕ, ◌<◌, ◌==◌, Bool, false, List, length, slice_index_or}
use Rattle.std.specs.List.{list_any}

-- for each of n nodes, whether it is the tail of a link, and whether it is the head of a link
pub record HaveEnds (n : ℕ) (tails heads : List Bool) (links : List (ℕ × ℕ)) : Type 0 where
  pub tails_long : length tails ≡ n
  pub heads_long : length heads ≡ n
  pub tails_are : (x : ℕ) → x < n → slice_index_or tails x false ≡ list_any (λ (l : ℕ × ℕ). l.0 == x) links
  pub heads_are : (x : ℕ) → x < n → slice_index_or heads x false ≡ list_any (λ (l : ℕ × ℕ). l.1 == x) links
