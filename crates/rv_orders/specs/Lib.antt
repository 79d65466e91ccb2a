pub mod Driven
pub mod Trial
pub mod internal
