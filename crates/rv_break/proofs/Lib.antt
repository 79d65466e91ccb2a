pub mod Buckets
pub mod Shown
pub mod Outside
