pub mod Clocks
pub mod Environment
