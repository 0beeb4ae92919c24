pub mod Saves
pub mod Takes
pub mod Writes
