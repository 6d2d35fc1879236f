-- Lists and tests
pub mod Members  -- membership in a list: by cases, and decided
pub mod Counting  -- how many elements pass a test
pub mod Booleans  -- combined tests
pub mod Lists  -- lists that are filtered, mapped, cut and joined
pub mod Sorting  -- each element is related to all that follow it
-- Links and rows
pub mod Linking  -- which nodes a link joins
pub mod Neighbours  -- what the row of a node says about the links
pub mod Ordering  -- links in order are determined by how often each one occurs
pub mod Rising  -- links in order increase
pub mod Acyclic  -- counts close no cycle
pub mod Giving  -- where the links that counts give come from
pub mod TurnedLinks  -- they are those of a network
pub mod Reordering  -- the order of the first links does not matter
-- A network is made, or refused
pub mod HalfLinks  -- halves of links, and the rows in them
pub mod ByNode  -- half-links sorted by node, twice
pub mod RowLists  -- all rows in one list
pub mod Building  -- from sorted half-links to the network, or the fault
pub mod JoinedTwice  -- the lowest two nodes that are joined twice
pub mod Refusing  -- links without a fault are refused only for missing memory
-- The store of the rows
pub mod RowTables  -- rows between their starts and ends, one of which changes
pub mod KeptRows  -- one row is written
pub mod LaidOut  -- rows with room after each
pub mod ShownLinks  -- the links in the rows
pub mod Remaking  -- a graph from its rows
-- Links that turn
pub mod Largest  -- what the code needs of the limits
pub mod TurnedRows  -- rows as counts turn them
pub mod PartTurned  -- how rows turn in place
pub mod TurnedNodes  -- the list of nodes that have turned
pub mod StackedNodes  -- heights one above the other
pub mod LiftedNodes  -- heights of nodes that turned
-- Edits
pub mod Editing  -- links without one of them
pub mod CutRows  -- their rows
pub mod Places  -- the place of a link, and of a neighbour
pub mod AddedLinks  -- links with an added one
pub mod AddedRows  -- their rows
pub mod EditedNets  -- both in a table
pub mod Joining  -- a link in the direction that is free
pub mod Batches  -- edits one after the other
pub mod Evidence  -- a fault has one evidence
pub mod Undoing  -- edits undone
-- The search for a cycle
pub mod Cycles  -- paths and cycles from their steps
pub mod FoundCycles  -- what the search finds
pub mod LowestCycles  -- there is one lowest cycle
-- The search from both ends
pub mod MetNodes  -- which nodes the sides have met
pub mod Sides  -- a side keeps its state
pub mod SideRows  -- the row that a side reads
pub mod TwoEnds  -- how it begins and ends
pub mod RowsRead  -- how far the search for the lowest path has read the rows
pub mod LowestPaths  -- one side alone, and the lowest path along which links lead to its start
