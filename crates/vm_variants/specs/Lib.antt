pub mod Guests
pub mod Variants
pub mod Changes
pub mod Texts
pub mod Examples
