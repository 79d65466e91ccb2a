pub mod Buckets
pub mod Span
pub mod Taken
