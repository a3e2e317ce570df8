pub mod Numbers
pub mod Walks
pub mod Walked
pub mod Rules
pub mod Helpers
