pub mod Runs
pub mod ThirdDemand
