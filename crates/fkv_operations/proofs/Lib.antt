pub mod ClassLemmas
pub mod KeptLemmas
