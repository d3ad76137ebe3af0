-- The law is the lemma.
use Rattle.otel_otlp.proofs.LinesCut.{lines_cut}
use Rattle.otel_otlp.proofs.laws.lines_are_cut.Goals as goal

pub returns : goal.returns
returns c = lines_cut
