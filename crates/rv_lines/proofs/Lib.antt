pub mod KeptLemmas
pub mod PieceLemmas
pub mod ReadLemmas
pub mod TextLemmas
