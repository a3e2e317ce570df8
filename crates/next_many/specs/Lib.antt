pub mod Many
pub mod Mixes
pub mod Rules
pub mod Helpers
pub mod Calls
