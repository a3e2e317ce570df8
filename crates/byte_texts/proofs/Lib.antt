pub mod TextLaws
pub mod WriteLaws
pub mod DecimalLaws
pub mod Examples
pub mod GrowthLaws
pub mod NameLaws
