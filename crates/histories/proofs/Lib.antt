mod Wholes
mod Nest
mod Outcome
pub mod Asked
mod Step
mod Users
mod Keeps
mod Chains
mod Launches
pub mod Faith
mod Made
pub mod Promised
mod Forms
pub mod Steadiness
pub mod One
