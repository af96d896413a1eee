pub mod Entries
pub mod Fetching
