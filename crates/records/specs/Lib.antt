pub mod Rights
pub mod Records
