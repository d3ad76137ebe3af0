pub mod Answer
pub mod Count
pub mod Endpoint
pub mod Following
pub mod Refusal
pub mod Request
pub mod RetryAfter
