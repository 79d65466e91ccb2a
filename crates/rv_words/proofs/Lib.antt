pub mod Fits
pub mod InputSoFar
pub mod ReadBack
pub mod RunLemmas
pub mod StepsLemmas
