pub mod Members
pub mod Questions
pub mod Outcomes
pub mod Rules
pub mod Refusals
pub mod Checks
pub mod CheckedSets
