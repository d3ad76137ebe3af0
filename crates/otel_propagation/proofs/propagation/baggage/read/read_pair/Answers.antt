use Rattle.otel_propagation.proofs.BaggageNoEntries.{not_cut}
use Rattle.otel_propagation.proofs.propagation.baggage.read.read_pair.Goals as goal

pub returns-in_err-name-clause-free : goal.returns-in_err-name-clause-free
returns-in_err-name-clause-free c none = absurd (not_cut c.args.pair.now _ _ c.in-Some.ensures.0 c.in-Some.ensures.1 none)

pub returns-in_err-value-clause-free : goal.returns-in_err-value-clause-free
returns-in_err-value-clause-free c none = absurd (not_cut c.args.pair.now _ _ c.in-Some.ensures.0 c.in-Some.ensures.1 none)
