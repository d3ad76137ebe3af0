pub mod Currents
pub mod Working
pub mod Tracings
pub mod Nesting
