pub mod ListLemmas
pub mod KeyLemmas
pub mod InflatedLemmas
pub mod RangeLemmas
pub mod ReportLemmas
pub mod TreeLemmas
