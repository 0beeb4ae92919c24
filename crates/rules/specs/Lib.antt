pub mod Parties
pub mod Views
