-- What only private contracts cite: no reader has to believe it.
pub mod Counting
pub mod Gathered
pub mod Lots
pub mod Tried
