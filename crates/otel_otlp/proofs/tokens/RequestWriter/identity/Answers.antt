-- One member after another.
use Rattle.std.proofs.Common.{◌++◌, ap}
use Rattle.otel_otlp.specs.Fields.{fields_tokens}
use Rattle.otel_otlp.specs.OtlpSpan.{context_fields, name_fields, parent_fields, time_fields}
use Rattle.otel_otlp.proofs.Adding.{and_fields, as_tokens}
use Rattle.otel_otlp.proofs.tokens.RequestWriter.identity.Goals as goal

pub returns : goal.returns
returns c =
    let span = c.args.span.now in
    let context = ap (λ span. fields_tokens (context_fields span.span_context)) c.span.view_is in
    and_fields (context_fields span.span_context) (parent_fields span ++ (name_fields span ++ time_fields span))
    (as_tokens context c.in_ok-context.ensures)
    (and_fields (parent_fields span) (name_fields span ++ time_fields span) c.in_ok-parent.ensures
    (and_fields (name_fields span) (time_fields span) c.in_ok-name.ensures c.time.ensures))
