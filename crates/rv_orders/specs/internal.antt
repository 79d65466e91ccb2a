-- What only invariants and the contracts of private functions cite: no reader has to believe it.
pub mod Ends
pub mod Gone
