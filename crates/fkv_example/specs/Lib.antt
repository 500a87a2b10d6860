pub mod LatestInputs
pub mod Laws
