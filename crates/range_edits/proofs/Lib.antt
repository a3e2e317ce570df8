pub mod BlockChanges
pub mod RangeChanges
