use Rattle.std.proofs.Common.{◌≡◌, ◌∙◌, ◌%◌, ◌^◌, Some, ap, is_some, sym}
use Rattle.std.specs.Int.{from_be_bytes, w64, w128}
use Rattle.opentelemetry.specs.Plain.{PlainSpanContext}
use Rattle.otel_embed.specs.Keys.{OpenedSpan}
use Rattle.otel_embed.proofs.IdBytes.{span_id_of_bytes, trace_id_of_bytes}
use Rattle.otel_embed.proofs.pipeline_of.PipelineOf.identity.Goals as goal

pub returns : goal.returns
returns g c =
    let found = c.in_ok-context.ensures.0 in
    let same : Some c.in_ok-is_recording.ensures.0 ≡ Some found = sym c.in_ok-is_recording.ensures.1 ∙ c.in_ok-context.ensures.1 in
    let one : c.in_ok-is_recording.ensures.0 ≡ found = cc in
    record {
      found = found;
      is_open = c.in_ok-context.ensures.1;
      trace_id = c.from_be_bytes.ensures ∙ ap (from_be_bytes w128) c.to_bytes.ensures ∙ trace_id_of_bytes _ ∙ ap (λ n. n % 2 ^ 128) c.trace_id.ensures
          ∙ ap (λ (x : PlainSpanContext). x.trace_id % 2 ^ 128) c.in_ok-context.ensures.2;
      span_id = c.from_be_bytes-2.ensures ∙ ap (from_be_bytes w64) c.to_bytes-2.ensures ∙ span_id_of_bytes _ ∙ ap (λ n. n % 2 ^ 64) c.span_id.ensures
          ∙ ap (λ (x : PlainSpanContext). x.span_id % 2 ^ 64) c.in_ok-context.ensures.2;
      trace_flags = c.to_u8.ensures ∙ c.trace_flags.ensures ∙ ap (λ (x : PlainSpanContext). x.trace_flags) c.in_ok-context.ensures.2;
      is_recording = c.in_ok-is_recording.ensures.2 ∙ ap (λ (f : OpenedSpan). is_some f.span.recorded) one;
    }
