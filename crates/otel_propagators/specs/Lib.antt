pub mod B3
pub mod B3Headers
pub mod Deferred
pub mod Reading
pub mod UberTraceId
pub mod Vendors
