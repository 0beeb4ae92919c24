pub mod Decimals
pub mod Cuts
