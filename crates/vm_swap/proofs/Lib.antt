pub mod Bounded
pub mod Marks
pub mod Kept
pub mod Slots
pub mod Absent
pub mod Merged
pub mod Parted
