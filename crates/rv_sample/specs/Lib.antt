pub mod Generator
pub mod Sites
pub mod internal
pub use Rattle.rv_elf.specs.Contents
