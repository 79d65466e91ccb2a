pub mod Escaped
pub mod Markup
pub mod MarkupLaws
