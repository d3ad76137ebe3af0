pub mod ConnectionLemmas
pub mod ContextFieldsLemmas
pub mod ContextTextsLemmas
pub mod FieldsLemmas
pub mod HeadersLemmas
pub mod LawLemmas
pub mod ServingLemmas
pub mod TellingLemmas
