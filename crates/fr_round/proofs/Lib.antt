-- lists of counts, and histories with one entry more
pub mod Entries
-- each step of a worker keeps the rule, and tells what it has to
pub mod StepsKeepTheRule
-- the opening seat gives out numbers, and a closing seat takes workers back
pub mod Seating
-- how many turns a history has, at most
pub mod TurnCounts
-- the turns of all workers add up to the counts
pub mod Totals
-- how many neighbours of a node miss their bounds, before and after a seen count rises
pub mod MissingNumbers
-- what the steps of a call come to
pub mod Calling
-- a call leaves a worker sound, and what it knows true
pub mod SoundCalls
-- the closing of a round
pub mod Gathering
-- one history explains the words and what all workers know
pub mod Standing
-- each step on the words is a step of the machine of fr_core
pub mod SameSteps
