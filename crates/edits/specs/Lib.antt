pub mod Edits
pub mod Rules
