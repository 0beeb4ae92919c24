mod Mixes
mod Altering
