pub mod Digits
pub mod Counts
pub mod LowMask
pub mod LastBit
