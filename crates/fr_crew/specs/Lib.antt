pub mod Candidates
pub mod Crews
pub mod Gates
pub mod Settlements
pub mod LiveWalks
