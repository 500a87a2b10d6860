pub mod OffsetLemmas
pub mod RegionLemmas
pub mod MoveLemmas
pub mod SettledLemmas
