pub mod Rows
pub mod Each
pub mod ByParts
