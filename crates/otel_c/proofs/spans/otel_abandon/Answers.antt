use Rattle.std.proofs.Common.{◌≡◌, ◌∙◌, IsSome, Some, ap, subst, sym}
use Rattle.otel_embed.specs.Keys.{span_at}
use Rattle.otel_embed.specs.declared.pipeline.Pipeline.{Pipeline}
use Rattle.otel_c.proofs.Turning.{if_held, ok_where_open, same_held}
use Rattle.otel_c.proofs.spans.otel_abandon.Goals as goal

pub returns-clause-free : goal.returns-clause-free
returns-clause-free c = if_held
    (λ (p : Pipeline). IsSome (span_at p.inside.spans c.args.span) → c.status_of_result.result ≡ 0) _ (λ p is opened. c.status_of_result.ensures.ok.0
    (ok_where_open c.deref_mut.result.now.inside.spans c.args.span c.abandon-abandoned.result
    c.abandon-abandoned.ensures.why
    (subst (λ (q : Pipeline). IsSome (span_at q.inside.spans c.args.span))
    (same_held _ p c.deref_mut.result.now is (c.in-Some.ensures.some.1 ∙ ap Some (sym c.deref_mut.ensures.value))) opened)))
