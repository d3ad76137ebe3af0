pub mod FractionLemmas
pub mod StreamLemmas
pub mod Tellings
