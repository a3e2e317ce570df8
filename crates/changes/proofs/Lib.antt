pub mod WordChanges
