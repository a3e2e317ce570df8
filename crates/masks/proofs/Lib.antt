pub mod RangeLaws
pub mod MaskLaws
pub mod ShiftLaws
mod Examples
