pub mod Endings
pub mod Plans
pub mod Reports
pub mod Sources
pub mod Advice
