pub mod Returns
pub mod Within
pub mod Spots
pub mod Listed
pub mod Walks
pub mod Sound
