pub mod AttemptLemmas
pub mod FieldLemmas
pub mod MessageLemmas
pub mod ReasonLemmas
