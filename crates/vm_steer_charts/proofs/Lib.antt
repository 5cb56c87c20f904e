pub mod PlaceLemmas
pub mod TextLemmas
pub mod SeriesLemmas
pub mod TakenLemmas
pub mod LogLemmas
pub mod FailLemmas
