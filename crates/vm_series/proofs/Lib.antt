pub mod RowLemmas
pub mod CsvLemmas
pub mod RecordLemmas
pub mod SeriesLemmas
