pub mod Fields
pub mod Masks
pub mod Spread
pub mod Users
pub mod Objects
pub mod Heads
pub mod Unique
mod Maps
mod Breaks
