pub mod Readings
pub mod Differences
pub mod Targets
pub mod Tables
pub mod Pairs
pub mod Counts
pub mod Entries
pub mod Search
