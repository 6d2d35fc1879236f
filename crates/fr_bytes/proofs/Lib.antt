-- parts of a list, joined
pub mod Pieces
-- cutting off the first line
pub mod Cutting
-- lines, and where they end
pub mod Ending
-- what holds of results
pub mod Results
-- what is done with streams
pub mod Traffics
