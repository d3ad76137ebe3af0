use Rattle.std.proofs.Common.{ap, subst, ◌∙◌}
use Rattle.opentelemetry.specs.PlainValues.{plain_value}
use Rattle.otel_resource.specs.Resource.{PlainResource, merge, service_named}
use Rattle.otel_resource.specs.DetectedResource.{PlainResourceStrings, IsSdkResource}
use Rattle.otel_resource.proofs.AttributeLemmas.{merge_nothing-attributes}
use Rattle.otel_resource.proofs.resource.env.SdkProvidedResourceDetectorResourceDetector.detect.Goals as goal

pub returns-clause-ok : goal.returns-clause-ok
returns-clause-ok c =
    let (env, read, name) = c.in_ok-name.ensures in
    let told : IsSdkResource c.self.inside.strings c.build.result = (
      env,
      read,
      c.build.ensures ∙ c.in_ok-named.ensures ∙ ap (λ (r : PlainResource). merge r (service_named (plain_value c.in_ok-name.name))) c.builder_empty.ensures
          ∙ merge_nothing-attributes (service_named (plain_value c.in_ok-name.name)).attributes ∙ ap service_named name,
    ) in
    subst (λ (s : PlainResourceStrings). IsSdkResource s c.build.result) c.self.view_is told
