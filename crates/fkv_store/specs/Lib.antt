pub mod Stores
pub mod AtOnce
pub mod Passes
pub mod Runs
pub mod Rows
pub mod Closes
