pub mod MessageLaws
pub mod TableLaws
pub mod HoldsLaws
pub mod EntryLaws
pub mod StartLaws
pub mod LineLaws
pub mod TextLaws
