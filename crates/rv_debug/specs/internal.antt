-- What only the contracts of private functions cite: no reader has to believe it.
pub mod Lines
pub mod Puts
pub mod Session
