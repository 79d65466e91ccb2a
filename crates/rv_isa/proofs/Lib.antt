pub mod EncodeLemmas
pub mod EncodedRow
pub mod LawLemmas
pub mod ListedLemmas
pub mod ReadsBack
pub mod RowLemmas
pub mod TableLemmas
