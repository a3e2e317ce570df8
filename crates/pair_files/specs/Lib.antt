pub mod Messages
pub mod Files
pub mod Holds
pub mod Good
