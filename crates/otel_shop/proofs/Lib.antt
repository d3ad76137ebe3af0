pub mod ServingLemmas
pub mod StatusLemmas
