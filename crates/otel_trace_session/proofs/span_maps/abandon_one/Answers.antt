use Rattle.std.proofs.Common.{None, ap, is_some, sym, ◌∙◌}
use Rattle.otel_trace_session.proofs.NamedLemmas.{named-get, updates_named}
use Rattle.otel_trace_session.proofs.span_maps.abandon_one.Goals as goal

pub returns-in-Some-clause-was : goal.returns-in-Some-clause-was
returns-in-Some-clause-was c = sym (ap is_some (named-get c.args.running.now c.args.name.now ∙ sym c.in-Some.ensures.value))

pub returns-in-Some-clause-gone : goal.returns-in-Some-clause-gone
returns-in-Some-clause-gone c = updates_named c.args.running.now c.remove.new.self c.args.name.now None c.remove.ensures.updates

pub returns-in-None-clause-was : goal.returns-in-None-clause-was
returns-in-None-clause-was c = sym (ap is_some (named-get c.args.running.now c.args.name.now ∙ sym c.in-None.ensures.value))

pub returns-in-None-clause-gone : goal.returns-in-None-clause-gone
returns-in-None-clause-gone c = updates_named c.args.running.now c.remove.new.self c.args.name.now None c.remove.ensures.updates
