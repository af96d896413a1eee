pub mod Kinds
pub mod Integers
pub mod Floats
pub mod Words
