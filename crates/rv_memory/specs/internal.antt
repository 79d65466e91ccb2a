-- What only the contracts of private functions cite: no reader has to believe it.
pub mod Code
pub mod Flat
pub mod Index
pub mod Paged
