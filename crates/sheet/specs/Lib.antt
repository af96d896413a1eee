pub mod Filled
pub mod Records
pub mod Rows
