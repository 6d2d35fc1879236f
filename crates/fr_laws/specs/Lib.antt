pub mod Announcements
pub mod Gains
pub mod Hops
pub mod Linear
pub mod Locality
pub mod Quiet
