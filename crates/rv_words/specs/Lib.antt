pub mod HartsLine
pub mod Prefix
pub mod StepsLaw
pub mod StepsLine
pub mod WordsGuest
pub mod WordsInput
pub mod WordsText
