pub mod Effects
pub mod Families
pub mod Operations
pub mod Floats
pub mod OnStack
