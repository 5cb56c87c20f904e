pub mod LoneLemmas
