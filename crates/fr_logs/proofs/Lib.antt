-- a plan is followed, target by target
pub mod Following
-- the logs of the workers that were handed back
pub mod Parting
-- jobs for plans, and what their threads give back
pub mod Jobs
-- an entry of a log in the run
pub mod Places
-- where a run ends, by the logs alone
pub mod Ends
