mod Narrowing
pub mod ReadingBack
pub mod Stepping
pub mod Taking
pub mod Varints
