-- Laws that other crates cite
pub mod Steps
-- Laws for this crate's functions
mod Results
mod FewWords
mod Constants
mod Decision
mod Sources
mod Answers
mod Taken
mod Plain
