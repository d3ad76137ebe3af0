pub mod Counting
pub mod Keeping
pub mod Leading
pub mod LimbsLemmas
pub mod Near
pub mod Reading
pub mod Rounding
pub mod Texts
