pub mod NaNs
pub mod Orders
pub mod Flipped
pub mod UnitWords
pub mod IeeeRem
