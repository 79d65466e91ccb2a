pub mod CountedLemmas
pub mod OrderLemmas
pub mod ShownLemmas
pub mod ShownRowLemmas
pub mod SumLemmas
