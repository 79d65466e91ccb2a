pub mod LinesFault
pub mod SourceLines
pub mod internal
