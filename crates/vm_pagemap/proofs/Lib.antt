mod AbsentPages
pub mod Resident
pub mod Places
pub mod FramesUnder
mod Kept
mod Exchanged
mod Last
