pub mod Loads
pub mod Sure
pub mod Filling
pub mod Trips
pub mod Order
