pub mod DrivingLemmas
pub mod GoingLemmas
pub mod PieceLemmas
pub mod SlotLemmas
