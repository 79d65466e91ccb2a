pub mod Framed
pub mod Framing
