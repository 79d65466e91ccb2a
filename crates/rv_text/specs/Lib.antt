pub mod Numeral
pub mod Hexadecimal
pub mod Decimal
pub mod Lines
pub mod Pieces
pub mod internal
