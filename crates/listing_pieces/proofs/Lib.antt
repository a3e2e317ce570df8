pub mod SetLaws
pub mod PieceLaws
pub mod SureLaws
pub mod StageLaws
pub mod PageLaws
pub mod VerdictLaws
