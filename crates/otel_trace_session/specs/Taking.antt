-- The batches that the first processor of a session keeps are taken: by a new session, and with each reply.
use Rattle.std.specs.Prelude.{◌≡◌, ◌⊎◌, []}
use Rattle.otel_pipeline.specs.Calls.{Calls}
use Rattle.otel_pipeline.specs.FirstProcessor.{batches_of_first}
use Rattle.otel_pipeline.specs.Provider.{ProviderState}
pub use Rattle.otel_pipeline.specs.FirstProcessor.{TakesFirst, TakesShown}

-- they are taken, or none is kept, and nothing is done
abbrev pub TakesKept : {P S G : Type 0} → Calls P S G → ProviderState P S G → ProviderState P S G → Type 0
TakesKept calls old new = TakesShown calls.processor calls.queues calls.keeps old new
    ⊎ ((batches_of_first calls.keeps old.processors ≡ []) × (new ≡ old))
