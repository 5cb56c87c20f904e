pub mod IntervalLemmas
pub mod TraceLemmas
pub mod GuestLemmas
pub mod TextLemmas
pub mod WayLemmas
pub mod TakingLemmas
pub mod WrittenLemmas
pub mod ComposedLemmas
pub mod ReadyLemmas
pub mod TakenLemmas
pub mod ImportLemmas
pub mod FailedLemmas
pub mod BackLemmas
pub mod DraftLemmas
pub mod ReadLemmas
pub mod CountLemmas
pub mod BeginLemmas
pub mod AccessLemmas
pub mod FirstLineLemmas
pub mod FrontLemmas
pub mod LogLemmas
pub mod NumeralLemmas
pub mod BlockStepLemmas
pub mod LineLemmas
pub mod WaitingLemmas
mod FirstTouchLemmas
mod MarkLemmas
mod RankLemmas
mod SoundLemmas
mod SetStepLemmas
