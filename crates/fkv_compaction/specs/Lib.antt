pub mod Compactor
