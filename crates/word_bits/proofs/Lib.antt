pub mod Order
pub mod Digits
pub mod Operations
pub mod Ones
pub mod Ends
pub mod NumberEnds
pub mod SingleBit
pub mod Quantifiers
pub mod LowMasks
pub mod ShiftMasks
pub mod LowestBit
pub mod Tabulate
mod Examples
