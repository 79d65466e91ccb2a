pub mod Acts
pub mod Key
pub mod StuckEnd
pub mod StuckEndLaws
pub mod internal
