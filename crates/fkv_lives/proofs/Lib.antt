pub mod WrongLemmas
