use Rattle.opentelemetry.proofs.Clauses.{if_ok_map}
use Rattle.otel_embed.proofs.headers.context_of.Goals as goal

pub returns : goal.returns
returns g c = if_ok_map c.extract_with_context.result
    (λ found extracts. record {
      between = c.in_ok-traced.traced;
      trace = c.in_ok-traced.ensures;
      baggage = extracts;
    }) c.extract_with_context.ensures.gives
