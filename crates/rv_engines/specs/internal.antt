-- What only the contracts of private functions cite: no reader has to believe it.
pub mod ExplainObject
pub mod Hunted
pub mod KeptRuns
pub mod Opened
