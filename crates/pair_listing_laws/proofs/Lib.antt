pub mod SomeLaws
pub mod ArriveLaws
pub mod TableLaws
pub mod Examples
