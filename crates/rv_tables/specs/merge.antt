-- The files of hunts, and what `merge` makes of them.
pub mod FileFault
pub mod FileFaultText
pub mod Ignore
pub mod Known
pub mod KnownLaws
pub mod Listing
pub mod Merge
pub mod TableFiles
pub mod Whole
