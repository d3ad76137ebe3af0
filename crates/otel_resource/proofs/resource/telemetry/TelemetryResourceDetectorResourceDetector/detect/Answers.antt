use Rattle.std.proofs.Common.{ap, ◌∙◌}
use Rattle.std.proofs.lemmas.Result.{IfOk-weaker}
use Rattle.otel_resource.specs.Resource.{Attributes, union, of_attributes, attributes_of}
use Rattle.otel_resource.specs.DetectedResource.{telemetry_pairs}
use Rattle.otel_resource.proofs.AttributeLemmas.{by_key-empty, union-empty_left}
use Rattle.otel_resource.proofs.resource.telemetry.TelemetryResourceDetectorResourceDetector.detect.Goals as goal

pub returns-clause-ok : goal.returns-clause-ok
returns-clause-ok c =
    let told = attributes_of telemetry_pairs in
    let all = c.in_ok-put_telemetry.ensures ∙ ap (λ (m : Attributes). union m told) (by_key-empty c.new-attributes.result c.new-attributes.ensures.empty) ∙ union-empty_left told in
    IfOk-weaker c.of_attributes.result _ _ (λ resource is. is ∙ ap (λ (m : Attributes). of_attributes m) all) c.of_attributes.ensures.ok
