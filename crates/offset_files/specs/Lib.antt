pub mod Files
pub mod Messages
pub mod Holds
