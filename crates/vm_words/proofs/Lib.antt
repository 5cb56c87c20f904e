mod OptionLemmas
mod NumberLemmas
mod WordsLemmas
