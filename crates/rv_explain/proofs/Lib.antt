pub mod BlockLemmas
pub mod OrderLemmas
pub mod Ranges
pub mod SecondLemmas
pub mod StuckLemmas
pub mod WriterLemmas
