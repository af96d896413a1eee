pub mod Letters
pub mod Settled
