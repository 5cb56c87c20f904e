mod BitLemmas
mod BlockLemmas
mod BlockRuns
mod RunLemmas
mod ExtremeLemmas
mod Outside
mod WordExtremes
mod WordLemmas
mod PlaceLemmas
mod MarkLemmas
pub mod PageSets
pub mod Listings
