pub mod Rows  -- a table of ways in two lists
pub mod Tables  -- pushes of tables of ways
pub mod Parts  -- parts of tables, and where walks lead
pub mod Nearest  -- first ways
pub mod Waves  -- waves: that they exist, and fall downstream
pub mod Orders  -- in which sense push orders are closed, and that the tables determine them
pub mod Existing  -- that a push order exists
pub mod Shrinking  -- what nodes have after each phase
pub mod Searching  -- what the search for a cycle knows
pub mod NotedWays  -- ways that are noted by their numbers
pub mod Planning  -- the pushes for one more node
pub mod Holding  -- pairs of a node and its list, and how they lie in memory
pub mod Changing  -- the pushes for one more node of a change, and room for them
