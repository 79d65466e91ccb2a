pub mod Facts
pub mod Object
