pub mod Ranges
pub mod RangeMasks
