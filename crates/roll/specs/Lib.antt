pub mod Slots
pub mod Rolls
pub mod Formed
pub mod Places
