-- What a provider calls: its processors, its sampler and its source of ids, by what contracts say of their calls.
use Rattle.otel_sampling.specs.declared.trace.sampler.ShouldSample as sampling
use Rattle.otel_sampling.specs.declared.trace.id_generator.GivesIds as drawing
use Rattle.otel_pipeline.specs.declared.trace.span_processor.SpanProcessor.{Ghosts}
use Rattle.otel_pipeline.specs.declared.trace.timed.Timed as timing
use Rattle.otel_pipeline.specs.declared.trace.counts_left_spans.CountsLeftSpans as leaving
use Rattle.otel_pipeline.specs.declared.trace.keeps_batches.KeepsBatches as keeping

-- what is said of the calls of a provider's processors, of its sampler and of its source of ids
pub record Calls (P S G : Type 0) : Type 1 where
  pub processor : Ghosts P
  pub timer : timing.Ghosts P
  pub queues : leaving.Ghosts P
  pub keeps : keeping.Ghosts P
  pub sampler : sampling.Ghosts S
  pub ids : drawing.Ghosts G

-- the same, from each of the traits
abbrev pub calls_of : {P S G : Type 0} → Ghosts P → timing.Ghosts P → leaving.Ghosts P → keeping.Ghosts P
    → sampling.Ghosts S → drawing.Ghosts G → Calls P S G
calls_of processor timer queues keeps sampler ids =
    record { processor = processor; timer = timer; queues = queues; keeps = keeps; sampler = sampler; ids = ids }
