use Rattle.std.proofs.lemmas.Result.{IfOk-weaker}
use Rattle.otel_resource.proofs.resource.builder.ResourceBuilder.with_detector.Goals as goal

pub returns-clause-ok : goal.returns-clause-ok
returns-clause-ok g c = IfOk-weaker c.with_seen.result _ _ (λ built is. (c.in_ok-seen.seen, c.in_ok-seen.ensures.ok, is)) c.with_seen.ensures.ok
