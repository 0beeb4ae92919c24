pub mod Nesting
pub mod Sound
pub mod Views
