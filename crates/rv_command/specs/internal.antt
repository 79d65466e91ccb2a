-- What only the contracts of private functions cite: no reader has to believe it.
pub mod Colors
pub mod Commands
