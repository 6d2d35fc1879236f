pub mod Measuring  -- numbers that agree with the links are the distances
pub mod Reaching  -- the search keeps its state
pub mod Entries  -- the entries of a row, and the links of its node
pub mod Listing  -- which nodes an update lists first, and that the others agree
pub mod Updating  -- an update keeps its state
pub mod NotedNodes  -- nodes that are noted, one by one
pub mod Renewing  -- what an update leaves
pub mod Walking  -- what the definitions of distances and ways imply
pub mod Ranking  -- the ways of a node, from its row
pub mod Marking  -- nodes that are marked, one by one
pub mod UnlistedNodes  -- why a node that is not listed has kept its ways
pub mod Counting  -- a table of ways has no more ways than there are links
pub mod Ordering  -- the nodes that have a distance, in order
pub mod Filling  -- the lists of all nodes grow in order
