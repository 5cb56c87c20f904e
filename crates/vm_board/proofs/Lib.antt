pub mod Counts
pub mod Sums
pub mod Gates
pub mod Rounds
pub mod Slots
pub mod Tickets
pub mod Shown
