pub mod Campaign
pub mod Kept
pub mod Pool
pub mod Run
pub mod internal
