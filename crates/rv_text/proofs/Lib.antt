pub mod NumberLemmas
pub mod HexLemmas
pub mod DecimalLemmas
pub mod SpellingLemmas
pub mod LineLemmas
pub mod SeparatorLemmas
