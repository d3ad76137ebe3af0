use Rattle.opentelemetry.proofs.BaggageLemmas.{copies_plain}
use Rattle.opentelemetry.proofs.baggage.entries.copy_of.Goals as goal

pub returns : goal.returns
returns c = copies_plain c.args.map.now.entries c.in_ok-copy.copy.entries c.in_ok-copy.ensures.cases
