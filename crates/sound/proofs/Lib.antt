pub mod Every
pub mod Firsts
pub mod Walk
