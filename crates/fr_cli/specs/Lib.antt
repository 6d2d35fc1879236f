pub mod Draws
pub mod Commands
pub mod Making
pub mod Tasks
