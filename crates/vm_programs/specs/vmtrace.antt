pub mod Statuses
pub mod Written
pub mod CommandLine
pub mod Taken
pub mod Examples
