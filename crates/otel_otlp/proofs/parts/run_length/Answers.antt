-- The walk stops where another scope begins.
use Rattle.std.proofs.Common.{◌≡◌, false, true, IsTrue, ap, subst, ◌∙◌, arith}
use Rattle.std.proofs.lemmas.List.{get_or_read}
use Rattle.otel_otlp.proofs.Runs.{first_run}
use Rattle.otel_otlp.proofs.parts.run_length.Goals as goal

pub returns-else-has_scope_of-clause-run : goal.returns-else-has_scope_of-clause-run
returns-else-has_scope_of-clause-run c =
    let first = c.args.first.now in
    let after = c.args.after.now in
    let here = c.index-after-count in
    first_run first first after c.loop-count.count c.loop-count.invariant.within c.loop-count.invariant.same
    (λ l e. let same : false ≡ true = subst IsTrue c.if-has_scope_of.false
    (c.has_scope_of.ensures.1 (ap (λ span. span.instrumentation_scope)
    (get_or_read after c.loop-count.count here.result l here.is first) ∙ e)) in cc)

pub returns-after-loop-count-clause-run : goal.returns-after-loop-count-clause-run
returns-after-loop-count-clause-run c =
    first_run c.args.first.now c.args.first.now c.args.after.now c.loop-count.count c.loop-count.invariant.within
    c.loop-count.invariant.same (λ l e. absurd (omega arith))
