use Rattle.std.proofs.Common.{arith, ap, sym, ◌∙◌}
use Rattle.std.specs.Option.{option_copied}
use Rattle.otel_propagation.proofs.propagation.members.extracted.Goals as goal

pub returns-in_ok-entries_of-in-Some-clause-infallible : goal.returns-in_ok-entries_of-in-Some-clause-infallible
returns-in_ok-entries_of-in-Some-clause-infallible g c = λ infallible.
    let reads = infallible.reads_no_entry c.in-Some.header.now (sym c.get.ensures ∙ ap option_copied c.in-Some.is) (omega arith) in
    c.with_baggage.ensures.free infallible.shares_no_state (c.in_ok-entries_of-in-Some.ensures.none reads)
