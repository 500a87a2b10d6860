pub mod SafeLemmas
pub mod TimelyLemmas
pub mod StepLemmas
pub mod RunLemmas
pub mod SeenLemmas
