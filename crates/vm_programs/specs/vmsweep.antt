pub mod Asking
pub mod Written
pub mod CommandLine
pub mod Keys
pub mod Lists
pub mod Refused
pub mod Taken
pub mod Examples
