pub mod HistoryLemmas
pub mod BoundedLemmas
pub mod FoldLemmas
pub mod RunLemmas
pub mod RoundLemmas
pub mod WaitLemmas
