pub mod Guests
pub mod Range
pub mod Reading
pub mod Status
pub mod Swept
pub mod Read
pub mod Taken
pub mod Counts
