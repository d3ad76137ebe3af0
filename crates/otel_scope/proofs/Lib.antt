pub mod Nested
pub mod Recording
