pub mod Requests
pub mod Returned
pub mod LineLexemes
pub mod Values
