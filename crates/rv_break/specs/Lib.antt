pub mod Breakpoints
pub mod Slots
pub mod SlotsLaw
pub mod internal
