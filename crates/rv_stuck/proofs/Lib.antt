pub mod EndLemmas
pub mod KeyLemmas
pub mod PollsLemmas
pub mod RangeLemmas
pub mod ReadsLemmas
pub mod RoundStepLemmas
