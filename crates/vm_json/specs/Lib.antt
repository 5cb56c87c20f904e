pub mod Plain
pub mod Tree
pub mod View
