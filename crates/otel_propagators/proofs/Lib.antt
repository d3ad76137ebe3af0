pub mod B3Lemmas
pub mod B3RoundTrip
pub mod JaegerLemmas
pub mod JaegerRoundTrip
