pub mod SearchLemmas
pub mod StepLemmas
pub mod VisitLemmas
