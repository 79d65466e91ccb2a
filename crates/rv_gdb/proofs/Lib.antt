pub mod DecodedLemmas
mod SearchLemmas
pub mod TextLemmas
