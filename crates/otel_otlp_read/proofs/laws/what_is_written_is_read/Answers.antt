-- The laws of the request's JSON, and its members one by one.
use Rattle.otel_otlp.specs.Otlp.{otlp_text, request}
use Rattle.otel_otlp_read.proofs.InputsRead.{document_back}
use Rattle.otel_otlp_read.proofs.RequestsRead.{request_back, runs_fit}
use Rattle.otel_otlp_read.proofs.laws.what_is_written_is_read.Goals as goal

pub returns-clause-request : goal.returns-clause-request
returns-clause-request c = λ resource batch fits all.
    request_back resource batch fits (c.runs_join.ensures.joined batch) (runs_fit batch all)

pub returns-clause-text : goal.returns-clause-text
returns-clause-text c = λ resource batch fits all utf8.
    document_back (otlp_text resource batch) (request resource batch) _ utf8
    (c.lines_read_back.ensures.document resource batch (fits, all))
    (request_back resource batch fits (c.runs_join.ensures.joined batch) (runs_fit batch all))
