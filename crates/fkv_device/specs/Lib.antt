pub mod Parts
pub mod Standing
pub mod Failing
pub mod Known
