-- The links and their turns
pub mod Sinks  -- a sink by counts
pub mod Turning  -- turn by turn the counts give the links
pub mod Runs  -- what the turns of a run add up to
pub mod Rounds  -- a run cut in two
pub mod SameLinks  -- the order of the links does not matter
pub mod RowLinks  -- the links at a node, by its row
pub mod SensesByRow  -- where these point
pub mod PointsByRow  -- whether one points to a node
pub mod Searching  -- a property of numbers below n, decided
pub mod Pigeons  -- different numbers below n
-- Settled counts
pub mod Away  -- lawful counts are at most each away number
pub mod Following  -- a path with no closed walk is short
pub mod Settling  -- where no node can turn, counts are settled
pub mod Unique  -- settled counts are alone
pub mod Paths  -- who has a path to the destination
pub mod Joining  -- who is joined with it
pub mod Finishing  -- turns alone end
pub mod Reached  -- they lead to all lawful counts that are nowhere below
pub mod SettledRuns  -- they lead to the settled counts
-- How much work there can be
pub mod Gaps  -- lists of numbers without a gap
pub mod Totals  -- how often all nodes turn together
pub mod Chains  -- links that all point away from the destination
-- The finisher
pub mod Worklists  -- what a worklist holds
pub mod CutOff  -- nodes that are cut off
pub mod Reaching  -- how a search reaches nodes
pub mod LevelSearches  -- the search by levels, step by step
pub mod LevelStarts  -- how it starts
-- Machines and their entries
pub mod Loads  -- what the loads of one worker show
pub mod MachineSteps  -- one step
pub mod MachineRuns  -- steps make a run
pub mod MachineParts  -- the part of each worker
pub mod Stepping  -- a machine stepped by hand
pub mod Checking  -- entries checked one by one
pub mod FirstBad  -- a history is a run, or has a first bad entry
-- Definitions tried by computation
pub mod SmallNetworks  -- on small networks
pub mod SmallPlays  -- on small plays
