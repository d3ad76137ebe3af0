use Rattle.std.proofs.Common.{◌≡◌, ◌∙◌, IsSome, Some, ap, subst, sym}
use Rattle.otel_embed.specs.Keys.{span_at}
use Rattle.otel_embed.specs.declared.pipeline.Pipeline.{Pipeline}
use Rattle.otel_c.proofs.Turning.{if_held, same_held}
use Rattle.otel_c.proofs.edits.otel_set_status.Goals as goal

pub returns-clause-free : goal.returns-clause-free
returns-clause-free c = λ few. if_held
    (λ (p : Pipeline). IsSome (span_at p.inside.spans c.args.span) → c.status_of_result.result ≡ 0) _ (λ p is some. c.status_of_result.ensures.ok.0
    (c.set_status-set.ensures.free few
    (subst (λ (q : Pipeline). IsSome (span_at q.inside.spans c.args.span))
    (same_held _ p c.deref_mut.result.now is (c.in-Some.ensures.some.1 ∙ ap Some (sym c.deref_mut.ensures.value))) some)))
