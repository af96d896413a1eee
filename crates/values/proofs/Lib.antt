-- Laws that other crates cite
pub mod Integers
pub mod LowBits
pub mod Words
