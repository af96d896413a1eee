-- Laws of numbers
pub mod Powers
pub mod Quotients
pub mod LeadingZeros
pub mod Packed
-- Laws of patterns and what they stand for
pub mod RoundedBits
pub mod SignBit
pub mod Fields
-- Laws of the conversions
pub mod Integers
pub mod Nearest
pub mod Exact
pub mod WholePart
pub mod Saturation
