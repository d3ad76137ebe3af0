use Rattle.otel_otlp.proofs.ReadsBack.{lines_same, request_reads_back}
use Rattle.otel_otlp.proofs.laws.lines_read_back.Goals as goal

pub returns-clause-document : goal.returns-clause-document
returns-clause-document c = λ resource batch fits. request_reads_back resource batch fits.0 fits.1

pub returns-clause-once : goal.returns-clause-once
returns-clause-once c = λ these those batch other fits others_fit.
    lines_same these those batch other fits.0 others_fit.0 fits.1 others_fit.1
