pub mod Checksum
pub mod Endings
