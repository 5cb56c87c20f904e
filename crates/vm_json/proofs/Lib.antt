pub mod ViewLemmas
pub mod NumberLemmas
pub mod TreeLemmas
pub mod LexemeLemmas
pub mod RunLemmas
pub mod PlainLemmas
