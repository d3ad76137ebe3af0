pub mod AnswerLemmas
pub mod BodyLemmas
pub mod EventLemmas
pub mod HeadLemmas
pub mod PostLemmas
pub mod ResultLemmas
pub mod RetryLemmas
