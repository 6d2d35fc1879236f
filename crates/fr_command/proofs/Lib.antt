-- a conversation takes bytes
pub mod Taking
-- a service answers pieces
pub mod Served
-- a line is not answered
pub mod Unanswered
-- a service answers in time
pub mod InTime
-- lines have one answer each
pub mod AnswersIn
-- an input has one output
pub mod Determined
-- lines are counted
pub mod Counting
-- a run answers lines
pub mod Progress
-- what a play is to try
pub mod PlayTargets
-- an input has one play
pub mod OnePlay
-- a play is written
pub mod PlayEnds
