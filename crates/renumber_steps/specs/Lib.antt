-- C-12: what a renumbering is, its questions, its rule; then what the helpers do.
pub mod Pairs
pub mod Rules
pub mod Promises
pub mod Passes
