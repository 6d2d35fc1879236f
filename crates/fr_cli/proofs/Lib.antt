pub mod DrawnSteps
pub mod Makings
pub mod OptionRules
pub mod OptionNumbers
pub mod Flags
pub mod Faulting
