pub mod ArmsLemmas
pub mod EndedLemmas
pub mod OwnLemmas
pub mod RoomLemmas
pub mod SentLemmas
pub mod WatchLemmas
