pub mod Able
pub mod Drawn
pub mod Draws
pub mod DriverLaws
pub mod Sampling
pub mod Turns
pub mod internal
