-- Laws for this crate's functions
mod Answers
mod Fronts
mod Passed
mod Rows
