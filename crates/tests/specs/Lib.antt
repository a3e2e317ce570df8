pub mod Rules
pub mod Helpers
pub mod Tests
