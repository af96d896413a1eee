pub mod Advance
pub mod Stages
pub mod Taken
