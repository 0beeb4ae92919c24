pub mod Writing
pub mod Taking
pub mod Sizes
pub mod Walking
