pub mod Closing
pub mod Starting
