pub mod Summaries
pub mod Laws
