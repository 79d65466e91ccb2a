pub mod Contents
pub mod Laws
pub mod Layout
pub mod Loaded
pub mod Written
pub mod internal
