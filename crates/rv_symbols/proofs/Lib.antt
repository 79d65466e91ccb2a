pub mod Choices
pub mod Merging
pub mod NameLemmas
pub mod Tables
