pub mod Each
pub mod Naming
pub mod Trees
pub mod Saving
