pub mod GoesOn
pub mod Plans
