pub mod Machine
pub mod Domains
pub mod Limits
