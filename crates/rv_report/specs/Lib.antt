pub mod Exhibit
pub mod ExhibitText
pub mod OfPause
pub mod Races
pub mod SideBySide
pub mod TableText
pub mod internal
