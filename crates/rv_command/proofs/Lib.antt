pub mod CommaLemmas
pub mod GivenLemmas
pub mod LineLemmas
pub mod NumberLemmas
pub mod OptionLemmas
pub mod TextLists
