pub mod Fields
pub mod Fits
pub mod Otlp
pub mod OtlpSpan
pub mod OtlpValues
pub mod ScopeRuns
pub mod Seen
