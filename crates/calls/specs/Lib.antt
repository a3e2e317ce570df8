pub mod Calls
pub mod History
pub mod Encoding
pub mod Rules
