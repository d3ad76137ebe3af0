use Rattle.otel_propagators.proofs.B3Lemmas.{many_read_once, single_once, span_once}
use Rattle.otel_propagators.proofs.b3.laws.b3_headers_read_once.Goals as goal

pub returns-clause-single : goal.returns-clause-single
returns-clause-single c = single_once

pub returns-clause-many : goal.returns-clause-many
returns-clause-many c = many_read_once

pub returns-clause-both : goal.returns-clause-both
returns-clause-both c = span_once
