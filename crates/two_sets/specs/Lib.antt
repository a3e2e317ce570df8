pub mod Combined
pub mod Rules
