-- What the engine of `hunt` makes: its text, its files and its page, and why it makes none.
pub mod HuntFault
pub mod Hunting
pub mod Late
pub mod Outputs
pub mod TableShown
