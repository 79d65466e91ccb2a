pub mod Classes
pub mod Judged
pub mod Races
pub mod Run
pub mod Second
pub mod Stretches
pub mod internal
