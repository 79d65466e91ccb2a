pub mod JudgedLemmas
pub mod RaceLemmas
