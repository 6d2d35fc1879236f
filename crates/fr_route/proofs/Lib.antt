pub mod Routing
pub mod RoundEnds
pub mod OutByRow
pub mod CutNodes
pub mod Walking
pub mod Changing
pub mod Opening
pub mod LoopWalks  -- walks of a table back to their first node
pub mod TablePushes
pub mod ShortestPaths  -- that a node with a path has a distance
pub mod WaysExist  -- that a node has a list of ways, and a walk by first ways
pub mod NodeWays  -- the same for the nodes of a state
pub mod WayPushes  -- all ways as a table
pub mod WayNoting  -- how the ways that a change alters are noted
pub mod Determined
pub mod OneTelling
pub mod Asking
pub mod FirstFaults
pub mod EachAnswer
pub mod ShortTexts
pub mod Touched
pub mod Moving
pub mod Written
pub mod Renewing
pub mod ChangedHops
pub mod ReportRooms  -- the room that a report of changed ways needs
pub mod WaysTold  -- notes of what a change does to ways
pub mod SettledHops
pub mod KeptRoutes
pub mod PushLengths
pub mod Inside
pub mod Following
pub mod Glued
pub mod PhaseLists  -- the pushes of a phase, one after another
pub mod Changed
pub mod AnsweredIn
pub mod EachIn
pub mod Replying
pub mod Tried
pub mod NamedFaults
