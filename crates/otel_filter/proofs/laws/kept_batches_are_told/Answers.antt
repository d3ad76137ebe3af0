use Rattle.otel_filter.proofs.ExportsInTurn.{told_in_turn}
use Rattle.otel_filter.proofs.laws.kept_batches_are_told.Goals as goal

pub returns : goal.returns
returns g c = λ old new batches answers ran.
    told_in_turn g.E.SpanExporter g.F.SpanFilter.keeps batches answers old new ran
