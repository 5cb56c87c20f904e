pub mod ChangeLemmas
pub mod FewestLaws
pub mod NearLemmas
pub mod OddLemmas
pub mod SeenLemmas
pub mod ShownLemmas
