pub mod Findings
pub mod KnownKeys
pub mod Texts
