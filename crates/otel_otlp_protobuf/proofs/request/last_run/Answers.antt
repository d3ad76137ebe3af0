-- The walk stops where another scope begins.
use Rattle.std.proofs.Common.{◌≡◌, ◌-◌, false, true, IsTrue, ap, subst, ◌∙◌, arith, drop}
use Rattle.std.proofs.lemmas.List.{get_or_read}
use Rattle.otel_otlp_protobuf.proofs.LastRun.{last_run, scope_of_last}
use Rattle.otel_otlp_protobuf.proofs.request.last_run.Goals as goal

pub returns-else-has_scope_of-clause-run : goal.returns-else-has_scope_of-clause-run
returns-else-has_scope_of-clause-run c =
    let before = c.args.before.now in
    let last = c.args.last.now in
    let begin = c.loop-begin.begin in
    let here = c.index-before-begin in
    last_run before last begin c.loop-begin.invariant.0 c.loop-begin.invariant.1
    (λ l e. let same : false ≡ true = subst IsTrue c.if-has_scope_of.false
    (c.has_scope_of.ensures.1 (ap (λ span. span.instrumentation_scope)
    (get_or_read before (begin - 1) here.result (omega arith) here.is last) ∙ e)) in cc)

pub returns-else-has_scope_of-clause-scope : goal.returns-else-has_scope_of-clause-scope
returns-else-has_scope_of-clause-scope c =
    scope_of_last (drop c.loop-begin.begin c.args.before.now) c.args.last.now c.loop-begin.invariant.1

pub returns-after-loop-begin-clause-run : goal.returns-after-loop-begin-clause-run
returns-after-loop-begin-clause-run c =
    last_run c.args.before.now c.args.last.now c.loop-begin.begin c.loop-begin.invariant.0 c.loop-begin.invariant.1
    (λ l e. absurd (omega arith))
