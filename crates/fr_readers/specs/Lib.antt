pub mod Published
pub mod Publishing
pub mod Answers
pub mod Inside
