pub mod GivenRuns
pub mod engine
pub mod internal
