pub mod Place
pub mod Writable
