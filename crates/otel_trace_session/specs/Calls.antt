-- What a session calls, and what the first of its processors has stored.
pub use Rattle.otel_pipeline.specs.Calls.{Calls, calls_of}
pub use Rattle.otel_pipeline.specs.FirstProcessor.{batches_of_first, losses_of_first, stored_of_first}
