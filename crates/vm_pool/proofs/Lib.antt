pub mod FirstLemmas
mod RunningLemmas
pub mod TurnLemmas
mod OrderLemmas
pub mod SlotLemmas
pub mod MoveLemmas
pub mod PoolLemmas
pub mod GuestAtLemmas
pub mod GrantLemmas
mod GrowLemmas
pub mod RevokeLemmas
mod LowerLemmas
pub mod EachLemmas
pub mod ConservesLemmas
pub mod ReleaseLemmas
