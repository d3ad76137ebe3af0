use Rattle.otel_filter.proofs.ExportsInTurn.{kept_spans, none_empty}
use Rattle.otel_filter.proofs.laws.kept_batches_have_the_kept_spans.Goals as goal

pub returns-clause-spans : goal.returns-clause-spans
returns-clause-spans c = kept_spans

pub returns-clause-none_empty : goal.returns-clause-none_empty
returns-clause-none_empty c = none_empty
