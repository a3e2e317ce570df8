pub mod Lines
pub mod Listings
pub mod Offsets
pub mod Pieces
