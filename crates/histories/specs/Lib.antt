pub mod Carries
pub mod Kept
pub mod Runs
pub mod Promises
pub mod Faithful
