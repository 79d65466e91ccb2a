-- What only private contracts cite: no reader has to believe it.
pub mod Adding
pub mod Shaped
pub mod Sought
pub mod Words
