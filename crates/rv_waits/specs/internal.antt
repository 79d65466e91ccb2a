-- What only the contracts of private functions cite: no reader has to believe it.
pub mod Added
pub mod Anchored
pub mod Four
pub mod Looked
pub mod MayWrite
pub mod Meets
pub mod Moves
pub mod Told
