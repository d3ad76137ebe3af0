pub mod AnsweredHops
pub mod QueueLemmas
