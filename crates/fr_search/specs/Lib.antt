pub mod Heads
pub mod Search
