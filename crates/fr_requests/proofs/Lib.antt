-- the items of an array, as values and as data
pub mod Items
-- the value of a line, from what serde_json promises
pub mod LineValues
-- the data of a text, from its value of JSON
pub mod Readings
-- the numbers of JSON that are numbers of a request
pub mod Naturals
-- bytes as a pattern finds them
pub mod FoundBytes
-- the front of a text as a lexeme
pub mod FrontTexts
-- a line that is read by its bytes
pub mod ByteLines
-- what a `?` returns
pub mod HandedOn
