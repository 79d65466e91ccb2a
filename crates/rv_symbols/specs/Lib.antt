pub mod Escaped
pub mod Naming
pub mod SymbolLaws
pub mod Symbols
pub mod internal
pub use Rattle.rv_lines.specs.SourceLines
