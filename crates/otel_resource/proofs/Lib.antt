pub mod AttributeLemmas
pub mod AttributesStringLemmas
pub mod DetectedLemmas
pub mod SameLemmas
