pub mod Positions
pub mod Counted
pub mod RuleLemmas
pub mod WaitLemmas
