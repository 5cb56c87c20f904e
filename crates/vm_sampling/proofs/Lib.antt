pub mod WordsLemmas
pub mod CountsLemmas
pub mod MarksLemmas
pub mod DrawsLemmas
pub mod IdleLemmas
