pub mod Requests
pub mod CommandLines
pub mod Memory
