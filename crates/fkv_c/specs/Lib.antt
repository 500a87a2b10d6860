pub mod Holding
pub mod Statuses
pub mod Crossing
pub mod Counting
pub mod Cells
pub mod Stores
pub mod Leading
