pub mod Rows
pub mod Csv
pub mod Records
pub mod Samples
pub mod Series
