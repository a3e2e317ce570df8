pub mod Examples
pub mod MessageLaws
pub mod TableLaws
pub mod HoldsLaws
pub mod ChoiceLaws
pub mod LineLaws
pub mod TextLaws
