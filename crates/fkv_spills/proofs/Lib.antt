pub mod GroupedLemmas
pub mod HeldLemmas
pub mod PartLemmas
pub mod SpillLemmas
