pub mod DemandLaws
pub mod RunLaws
pub mod Examples
