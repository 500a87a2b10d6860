pub mod CompactorLemmas
