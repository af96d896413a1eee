pub mod Families
pub mod OwnRow
pub mod Operations
pub mod Floats
