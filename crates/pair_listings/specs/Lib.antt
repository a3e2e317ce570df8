-- C-12 in the tool: tables of pairs and what they make of a set, then what is written of them.
pub mod Tables
pub mod Lines
pub mod Stages
pub mod Pages
pub mod Pieces
