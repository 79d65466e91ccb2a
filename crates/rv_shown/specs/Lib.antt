pub mod Asked
pub mod Checks
pub mod Outcome
pub mod ShownOnce
pub mod ToldOrder
pub mod Warnings
