use Rattle.std.proofs.Common.{ap, subst, ◌∙◌}
use Rattle.std.proofs.lemmas.Result.{IfOk-weaker}
use Rattle.std.specs.FinMap as fin
use Rattle.opentelemetry.specs.PlainValues.{plain_value}
use Rattle.otel_resource.specs.Resource.{by_key}
use Rattle.otel_resource.specs.DetectedResource.{PlainResourceStrings, ReadsAs}
use Rattle.otel_resource.proofs.AttributeLemmas.{by_key-empty}
use Rattle.otel_resource.proofs.DetectedLemmas.{put_as_detected}
use Rattle.otel_resource.proofs.resource.env.detected_attributes.Goals as goal

pub returns : goal.returns
returns c =
    let given = ap (λ (s : PlainResourceStrings). s.attributes) c.strings.view_is in
    IfOk-weaker c.put_string.result _ _ (λ all is.
    let (pairs, reads, over) = is in
    put_as_detected c.args.strings.now _ _ _ (by_key all) _ pairs (by_key-empty c.new-attributes.result c.new-attributes.ensures.empty)
    (c.in_ok-put.ensures.ok ∙ (λ i. fin.insert (by_key c.new-attributes.result) (c.from_static_str.ensures i) (plain_value c.in_ok-name.name)))
    c.in_ok-name.ensures c.in_ok-put_telemetry.ensures
    (subst (λ o. ReadsAs o pairs) given reads) over)
    c.put_string.ensures
