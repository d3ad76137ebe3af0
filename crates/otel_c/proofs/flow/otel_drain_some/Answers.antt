use Rattle.std.proofs.Common.{◌∙◌, Some, ap, sym}
use Rattle.otel_c.proofs.Turning.{counted, turned}
use Rattle.otel_c.proofs.flow.otel_drain_some.Goals as goal

pub returns-clause-ok : goal.returns-clause-ok
returns-clause-ok c = λ either. turned _ _ _ c.deref_mut.result.now _ (c.in-Some.ensures.some.1 ∙ ap Some (sym c.deref_mut.ensures.value)) c.put.ensures.1
    (counted _ c.drain_some-answer.result _ _ _ _ c.drained.ensures.ok c.drained.ensures.err c.drain_some-answer.ensures.ok either)
