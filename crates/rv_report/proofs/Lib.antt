pub mod ExhibitLaws
pub mod Exhibits
pub mod Reports
pub mod SameStep
pub mod StillPaused
pub mod Tables
pub mod Rows
pub mod Written
