pub mod ActLemmas
pub mod EngineLemmas
pub mod LastStore
pub mod MetLemmas
pub mod TalkLemmas
pub mod TurnLemmas
