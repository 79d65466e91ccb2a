pub mod BoolLemmas
pub mod EngineLemmas
pub mod FileLemmas
pub mod GivenLemmas
pub mod MadeLemmas
pub mod OpenLemmas
pub mod PartedLemmas
pub mod TableLemmas
