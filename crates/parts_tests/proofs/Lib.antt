pub mod TaxLemmas
