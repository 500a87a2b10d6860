pub mod Cutting
pub mod Standing
pub mod Spans
pub mod Left
pub mod Shares
pub mod Orders
pub mod Pieces
