pub mod Changes
pub mod Kinds
pub mod Rights
pub mod Sets
pub mod State
pub mod Ways
