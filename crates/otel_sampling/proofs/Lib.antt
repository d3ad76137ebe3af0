pub mod ConfigLemmas
pub mod FaultLemmas
pub mod RatioLemmas
