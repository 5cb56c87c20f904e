pub mod Changes
pub mod Examples
pub mod Keys
pub mod OddKeys
pub mod Seen
pub mod Shown
pub mod Told
