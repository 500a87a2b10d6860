mod HandleLemmas
mod SpreadLemmas
