pub mod Texts
pub mod Notation
