pub mod WordJoins
pub mod BlockJoins
