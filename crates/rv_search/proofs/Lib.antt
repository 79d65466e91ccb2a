pub mod FoldLemmas
pub mod HuntLemmas
pub mod JudgedLemmas
pub mod RemadeLemmas
pub mod ResultLemmas
pub mod RightLemmas
pub mod SummaryLemmas
pub mod WalkLemmas
