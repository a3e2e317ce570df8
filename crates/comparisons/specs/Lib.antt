pub mod Relations
pub mod Rules
pub mod Helpers
pub mod Orders
pub mod Compares
