pub mod PartLemmas
mod ChainLemmas
pub mod CountLemmas
pub mod LimitLemmas
pub mod CommandLemmas
pub mod LengthLemmas
mod StepLemmas
