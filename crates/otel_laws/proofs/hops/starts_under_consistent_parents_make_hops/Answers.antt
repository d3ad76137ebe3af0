use Rattle.std.proofs.Common.{refl}
use Rattle.otel_pipeline.specs.SpanHistory.{span_of}
use Rattle.otel_pipeline.specs.StartRequest.{start_question}
use Rattle.otel_laws.proofs.AnsweredHops.{hop_of_answer}
use Rattle.otel_laws.proofs.hops.starts_under_consistent_parents_make_hops.Goals as goal

pub returns : goal.returns
returns g c = λ old new request history parent below.
    hop_of_answer parent (span_of history).span_context old.sampler
    (start_question request.cx parent.trace_id request.builder) refl below.is_active
    (c.starts_below_spans_go_by_the_answer.ensures old new request history parent below)
