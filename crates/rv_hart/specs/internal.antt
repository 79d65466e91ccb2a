-- What only the contracts of private functions cite: no reader has to believe it.
pub mod Able
pub mod AccessKind
pub mod HartAccess
pub mod Harts
pub mod Machine
pub mod Quick
