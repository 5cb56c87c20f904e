pub mod Course
pub mod Served
pub mod Rounds
