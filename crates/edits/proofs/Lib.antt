pub mod PositionChanges
pub mod ListChanges
mod Examples
