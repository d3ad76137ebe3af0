use Rattle.otel_propagation.proofs.StrictHeaders.{written_is_header}
use Rattle.otel_propagation.proofs.strict_laws.strict_headers_are_of_the_grammar.Goals as goal

pub returns : goal.returns
returns c = written_is_header
