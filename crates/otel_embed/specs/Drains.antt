-- What becomes of the ended spans of a pipeline: calls of its provider, drains, and how many spans are where.
use Rattle.std.specs.Prelude.{◌≡◌, ◌≢◌, ◌↔◌, ◌≤◌, ◌⊎◌, ◌+◌, ◌-◌, ◌^◌, ℕ, List, [], Result, IsOk, length, map, min, slice_get, sum}
use Rattle.std.specs.Option.{option_map_or}
use Rattle.otel_export.specs.StoredBatches.{spans_kept}
use Rattle.otel_export.specs.declared.error.OTelSdkError.{OTelSdkError}
use Rattle.otel_otlp.specs.Otlp.{otlp_lines}
use Rattle.otel_pipeline.specs.Calls.{Calls}
use Rattle.otel_pipeline.specs.FirstProcessor.{TakesShown, batches_of_first, stored_of_first}
use Rattle.otel_embed.specs.Flows.{Answers, Did}
use Rattle.otel_embed.specs.HeldLines.{AreWholeLines, HandsOutIfFits, LinesHeld}
use Rattle.otel_embed.specs.Pipelines.{PipelineState}
use Rattle.otel_embed.specs.declared.numbers.Numbers.{Numbers}

module _ {P S G : Type 0} (calls : Calls P S G) where
  -- a call of the provider did this, and changed nothing else; it succeeded where the provider answered Ok
  pub record FlowsBy (did : Did) (Succeeds : Type 0) (old new : PipelineState P S G) : Type 0 where
    pub answer : Result (Unit {0}) OTelSdkError
    pub answers : Answers calls did answer old.flow.provider new.flow.provider
    pub says : IsOk answer ↔ Succeeds
    pub rest : new ≡ record old { flow = record old.flow { provider = new.flow.provider } }

  -- the lines of all that is kept
  abbrev pub lines_of_kept : PipelineState P S G → LinesHeld
  lines_of_kept pipeline =
      let batches = batches_of_first calls.keeps pipeline.flow.provider.processors in
      record { bytes = otlp_lines pipeline.flow.resource batches; spans = map length batches }

  -- where no lines were held, what was kept has become lines; where some were nothing happened
  abbrev pub Collects : PipelineState P S G → PipelineState P S G → Type 0
  Collects old new =
      ((old.flow.lines.bytes ≡ [])
      × TakesShown calls.processor calls.queues calls.keeps old.flow.provider new.flow.provider
      × (new ≡ record old
      { flow = record old.flow { provider = new.flow.provider; lines = lines_of_kept old } }))
      ⊎ ((old.flow.lines.bytes ≢ []) × (new ≡ old))

  -- lines were collected; and so many bytes were handed out, to the beginning of a buffer, where that has room for them
  pub record Drains (old : PipelineState P S G) (buffer : List ℕ) (count : ℕ) (filled : List ℕ)
      (new : PipelineState P S G) : Type 0 where
    pub collected : PipelineState P S G
    pub collects : Collects old collected
    pub within : count ≤ length collected.flow.lines.bytes
    pub hands : HandsOutIfFits collected.flow.lines count buffer filled new.flow.lines
    pub rest : new ≡ record collected { flow = record collected.flow { lines = new.flow.lines } }

  -- all lines that were collected
  pub record DrainsAll (old : PipelineState P S G) (buffer : List ℕ) (count : ℕ) (filled : List ℕ)
      (new : PipelineState P S G) : Type 0 where
    pub drains : Drains old buffer count filled new
    pub all : count ≡ length drains.collected.flow.lines.bytes

  -- as many of them as the buffer has room for
  pub record DrainsSome (old : PipelineState P S G) (buffer : List ℕ) (count : ℕ) (filled : List ℕ)
      (new : PipelineState P S G) : Type 0 where
    pub drains : Drains old buffer count filled new
    pub some : AreWholeLines drains.collected.flow.lines.bytes (length buffer) count

-- a count that stops at the greatest u64
abbrev pub capped : ℕ → ℕ
capped count = min count (2 ^ 64 - 1)

-- how many spans are where
pub record CountsIn {P S G : Type 0} (calls : Calls P S G) (pipeline : PipelineState P S G) (numbers : Numbers)
    : Type 0 where
  pub open_spans : numbers.open_spans ≡ length pipeline.spans.entries
  pub waiting_spans : numbers.waiting_spans
      ≡ option_map_or calls.queues.open_over (slice_get pipeline.flow.provider.processors 0) 0
  pub dropped_spans : numbers.dropped_spans
      ≡ option_map_or calls.queues.dropped_over (slice_get pipeline.flow.provider.processors 0) 0
  pub refused_spans : numbers.refused_spans ≡ pipeline.refusals
  pub lost_batches : numbers.lost_batches ≡ (stored_of_first calls.keeps pipeline.flow.provider.processors).lost
  pub lost_spans : numbers.lost_spans ≡ (stored_of_first calls.keeps pipeline.flow.provider.processors).lost_spans
  pub undrained_spans : numbers.undrained_spans ≡ capped (sum pipeline.flow.lines.spans
      + spans_kept (stored_of_first calls.keeps pipeline.flow.provider.processors))
  pub undrained_bytes : numbers.undrained_bytes ≡ length pipeline.flow.lines.bytes
