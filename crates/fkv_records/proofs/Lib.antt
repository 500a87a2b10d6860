pub mod EditLemmas
pub mod HeaderLemmas
pub mod PlaceLemmas
pub mod RecordLemmas
