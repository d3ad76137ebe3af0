use Rattle.std.proofs.Common.{sym, subst, ◌∙◌}
use Rattle.std.proofs.lemmas.Result.{IfOk-weaker}
use Rattle.otel_resource.specs.Resource.{PlainResource}
use Rattle.otel_resource.specs.DetectedResource.{IsDetected}
use Rattle.otel_resource.proofs.resource.Resource.builder.Goals as goal

pub returns : goal.returns
returns c =
    IfOk-weaker c.of_parts.result _ _
    (λ built is. subst (λ (r : PlainResource). IsDetected c.args.strings.now r) (sym (is ∙ c.of_attributes.ensures)) c.in_ok-attributes.ensures)
    c.of_parts.ensures
