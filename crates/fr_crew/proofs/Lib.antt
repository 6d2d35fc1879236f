pub mod Beginning
pub mod Candidates
pub mod Turners
pub mod Workers
pub mod Walking
