pub mod Held
pub mod Progress
pub mod Reading
pub mod Wire
