pub mod Before
pub mod Capped
pub mod Core
pub mod GoesOn
pub mod Joins
pub mod Row
pub mod Told
