pub mod Rows
pub mod Values
pub mod Charts
pub mod Draws
pub mod Series
pub mod Reading
