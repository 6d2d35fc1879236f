pub mod Recording
pub mod RecorderInside
pub mod Logged
pub mod Jobs
pub mod Runs
pub mod Laws
