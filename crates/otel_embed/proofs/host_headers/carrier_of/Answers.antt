use Rattle.opentelemetry.specs.TextMap.{texts_of}
use Rattle.otel_embed.specs.Headers.{plain_headers}
use Rattle.otel_embed.proofs.HeaderTexts.{are_headers, no_texts}
use Rattle.otel_embed.proofs.host_headers.carrier_of.Goals as goal

pub returns : goal.returns
returns c = are_headers (plain_headers c.args.headers) (texts_of c.new-carrier.result) (texts_of c.set_header.new.carrier)
    (texts_of c.set_header-2.new.carrier) (texts_of c.set_header-3.new.carrier) (no_texts c.new-carrier.result c.new-carrier.ensures)
    c.in_ok-set_header.ensures c.in_ok-set_header-2.ensures c.in_ok-set_header-3.ensures
