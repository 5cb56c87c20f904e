pub mod runs
pub mod vmcheck
pub mod vmmem
pub mod vmseries
pub mod vmsweep
pub mod vmtrace
pub mod words
