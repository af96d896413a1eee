pub mod Operators
pub mod Remainder
