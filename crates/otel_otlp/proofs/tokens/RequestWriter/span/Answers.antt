-- One member after another.
use Rattle.otel_otlp.specs.OtlpSpan.{identity_fields, recording_fields, span_fields}
use Rattle.otel_otlp.proofs.Adding.{and_fields, as_object}
use Rattle.otel_otlp.proofs.tokens.RequestWriter.span.Goals as goal

pub returns : goal.returns
returns c =
    let span = c.args.span.now in
    as_object (span_fields span) c.in_ok-begin_object.ensures
    (and_fields (identity_fields span) (recording_fields span) c.in_ok-identity.ensures c.in_ok-recording.ensures)
    c.end_object.ensures
