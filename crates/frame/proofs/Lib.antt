-- Laws that other crates cite
pub mod Needs
-- Laws for this crate's functions
mod Parts
