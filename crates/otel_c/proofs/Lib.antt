-- The pipeline and its allocator; what owns a box, and the names that the walks cite; what a call did to the pipeline
-- of a handle.
pub mod Owners
pub mod Steps
pub mod Turning
pub mod Types
