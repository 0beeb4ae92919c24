pub mod Faults
pub mod Loads
pub mod Guards
pub mod Marked
pub mod Decides
