-- Laws for this crate's functions
mod Turns
mod Promise
