use Rattle.opentelemetry.proofs.Clauses.{if_ok_map}
use Rattle.opentelemetry.specs.TextMap.{texts_of}
use Rattle.otel_embed.proofs.host_headers.host_context.Goals as goal

pub returns : goal.returns
returns c = if_ok_map c.context_of.result
    (λ found reads. record { texts = texts_of c.in_ok-carrier.carrier; are = c.in_ok-carrier.ensures; reads = reads }) c.context_of.ensures
