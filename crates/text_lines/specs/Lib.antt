pub mod Texts
pub mod Bounds
pub mod Rests
pub mod Messages
pub mod Tallies
pub mod Readers
pub mod Reports
