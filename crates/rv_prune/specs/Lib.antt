pub mod Class
pub mod ClassLaws
pub mod Code
pub mod Fences
pub mod Ordered
pub mod Ranges
pub mod Waits
pub mod internal
