-- One member after another.
use Rattle.std.proofs.Common.{ap}
use Rattle.otel_otlp.specs.Fields.{fields_tokens}
use Rattle.otel_otlp.specs.OtlpSpan.{time_fields}
use Rattle.otel_otlp.proofs.Adding.{and_then, as_tokens}
use Rattle.otel_otlp.proofs.tokens.RequestWriter.time.Goals as goal

pub returns : goal.returns
returns c =
    as_tokens (ap (λ span. fields_tokens (time_fields span)) c.span.view_is)
    (and_then c.in_ok-moment_field.ensures c.moment_field-2.ensures)
