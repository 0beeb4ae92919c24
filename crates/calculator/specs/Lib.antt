pub mod Questions
pub mod Replies
pub mod Lines
