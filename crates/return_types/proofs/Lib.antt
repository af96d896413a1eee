-- Laws for this crate's functions
mod Words
