pub mod Handles
pub mod Kept
