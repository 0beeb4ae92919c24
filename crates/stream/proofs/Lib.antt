pub mod Lists
pub mod Five
pub mod Heads
pub mod Steps
pub mod Sure
