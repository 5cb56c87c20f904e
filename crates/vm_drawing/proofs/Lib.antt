pub mod PictureLemmas
pub mod BandLemmas
pub mod ScaleLemmas
pub mod RoundLemmas
pub mod StackedLemmas
