pub mod MemberJoins
pub mod SetJoins
