-- How large a network and a batch of edits may be. This project's own.
use Rattle.std.specs.Prelude.{ℕ, ◌≤◌, List, length}

abbrev pub most_nodes : ℕ
most_nodes = 4096

abbrev pub most_links : ℕ
most_links = 32768

abbrev pub most_edits : ℕ
most_edits = 1024

-- the numbers of nodes and links are within the limits
pub record IsWithinLimits (n : ℕ) (links : List (ℕ × ℕ)) : Type 0 where
  pub nodes_few : n ≤ most_nodes
  pub links_few : length links ≤ most_links
