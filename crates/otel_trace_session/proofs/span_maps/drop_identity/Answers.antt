use Rattle.std.proofs.Common.{◌∙◌, ap, is_some, sym}
use Rattle.otel_trace_session.proofs.HeldLemmas.{drops_kept, is_kept}
use Rattle.otel_trace_session.proofs.span_maps.drop_identity.Goals as goal

pub returns-clause-was : goal.returns-clause-was
returns-clause-was c = c.is_some.ensures ∙ ap is_some c.remove-kept.ensures.value ∙ sym (is_kept c.args.finished.now c.args.name.now)

pub returns-clause-gone : goal.returns-clause-gone
returns-clause-gone c = drops_kept c.args.finished.now c.remove-kept.new.self c.args.name.now c.remove-kept.ensures.updates
