use Rattle.std.proofs.Common.{subst}
use Rattle.opentelemetry.specs.Baggage.{HasDistinctNames}
use Rattle.opentelemetry.proofs.BaggageLemmas.{HasDistinctNames-plain_entries}
use Rattle.opentelemetry.proofs.baggage.entries.Entries.len.Goals as goal

pub returns-clause-distinct : goal.returns-clause-distinct
returns-clause-distinct c = subst HasDistinctNames c.self.view_is (HasDistinctNames-plain_entries c.self.inside.map.entries c.len.ensures.unique)
