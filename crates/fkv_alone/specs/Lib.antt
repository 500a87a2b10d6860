pub mod Stages
pub mod Ending
pub mod Bound
pub mod Causes
