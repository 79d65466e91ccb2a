pub mod Gathered
pub mod Writers
