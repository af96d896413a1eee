pub mod Sums
pub mod Shift
pub mod Signed
pub mod Bitwise
pub mod Comparison
pub mod Machine
