pub mod Pages
pub mod Blocks
pub mod Words
pub mod Extremes
pub mod Runs
pub mod PageTable
pub mod Places
