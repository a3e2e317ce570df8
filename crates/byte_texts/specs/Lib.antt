pub mod Ascii
pub mod Texts
pub mod Growth
