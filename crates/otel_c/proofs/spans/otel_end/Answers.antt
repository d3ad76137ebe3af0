use Rattle.std.proofs.Common.{◌≡◌, ◌∙◌, Some, ap, subst, sym}
use Rattle.otel_embed.specs.Pipelines.{EndNeedsNone}
use Rattle.otel_embed.specs.declared.pipeline.Pipeline.{Pipeline}
use Rattle.otel_c.proofs.Turning.{if_held, same_held}
use Rattle.otel_c.proofs.spans.otel_end.Goals as goal

pub returns-clause-free : goal.returns-clause-free
returns-clause-free c = if_held
    (λ (p : Pipeline). EndNeedsNone p.inside c.args.span → c.status_of_result.result ≡ 0) _ (λ p is needs. c.status_of_result.ensures.ok.0 (c.end-ended.ensures.free
    (subst (λ (q : Pipeline). EndNeedsNone q.inside c.args.span)
    (same_held _ p c.deref_mut.result.now is (c.in-Some.ensures.some.1 ∙ ap Some (sym c.deref_mut.ensures.value))) needs)))
