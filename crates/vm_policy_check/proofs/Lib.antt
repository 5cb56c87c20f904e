pub mod FoundLemmas
pub mod ObjectLemmas
pub mod PolicyLemmas
