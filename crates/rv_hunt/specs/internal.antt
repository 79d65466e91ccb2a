-- What only private contracts cite: no reader has to believe it.
pub mod MakeFault
pub mod Opened
pub mod Remaking
