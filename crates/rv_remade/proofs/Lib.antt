pub mod OrderShowingLemmas
pub mod ReportLemmas
pub mod ShowingLemmas
