pub mod Rules
pub mod Helpers
