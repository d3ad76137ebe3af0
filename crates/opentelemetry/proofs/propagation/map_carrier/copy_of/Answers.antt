use Rattle.opentelemetry.proofs.TextMapLemmas.{copied_text_map, AllLowerNames-copied}
use Rattle.opentelemetry.proofs.propagation.map_carrier.copy_of.Goals as goal

pub returns-clause-same : goal.returns-clause-same
returns-clause-same c = copied_text_map c.args.texts.now c.in_ok-copy.copy c.in_ok-copy.ensures.cases

pub returns-clause-lower : goal.returns-clause-lower
returns-clause-lower c = λ low. AllLowerNames-copied c.args.texts.now.entries c.in_ok-copy.copy.entries c.in_ok-copy.ensures.cases low
