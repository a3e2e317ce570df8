pub mod Texts
pub mod DigitLaws
pub mod Parts
pub mod NumberLaws
pub mod Examples
pub mod LineLaws
