-- What only private contracts cite: no reader has to believe it.
pub mod OrderShowing
pub mod Showing
