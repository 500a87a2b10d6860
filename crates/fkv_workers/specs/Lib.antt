pub mod Listing
pub mod Shares
pub mod Spilling
pub mod Works
