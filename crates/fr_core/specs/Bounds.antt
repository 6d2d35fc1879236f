-- A sink, in terms of counts. This project's own, after Welch and Walter (2011).
use Rattle.std.specs.Prelude.{ℕ, ◌+◌, ◌≤◌, List, slice_index}
use Rattle.fr_graph.specs.Links.{Points, Joins}

-- x has a link, and the count of each neighbour meets its bound: one more than the count of x if the link first pointed
-- to the neighbour, and the count of x if it first pointed to x
pub record MeetsBounds (first : List (ℕ × ℕ)) (counts : List ℕ) (x : ℕ) : Type 0 where
  pub linked : (w : ℕ) × Joins first x w
  pub along : (w : ℕ) → Points first x w → slice_index counts x + 1 ≤ slice_index counts w
  pub against : (w : ℕ) → Points first w x → slice_index counts x ≤ slice_index counts w
