pub mod ObjectLemmas
