pub mod PlaceLemmas
pub mod ListsLemmas
pub mod MergedLemmas
pub mod UnionLemmas
pub mod RefusingLemmas
pub mod ClosedLemmas
