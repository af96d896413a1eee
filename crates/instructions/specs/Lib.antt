pub mod Table
pub mod Decode
pub mod Stages
