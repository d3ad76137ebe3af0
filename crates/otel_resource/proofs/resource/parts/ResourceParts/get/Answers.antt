use Rattle.std.proofs.Common.{sym, ap, ◌∙◌}
use Rattle.std.specs.Option.{option_map}
use Rattle.std.specs.FinMap as fin
use Rattle.opentelemetry.specs.PlainValues.{plain_value}
use Rattle.otel_resource.specs.Resource.{PlainResource}
use Rattle.otel_resource.proofs.AttributeLemmas.{get-by_key, plain_copied}
use Rattle.otel_resource.proofs.resource.parts.ResourceParts.get.Goals as goal

pub returns : goal.returns
returns c =
    plain_copied c.get.result ∙ ap (option_map plain_value) c.get.ensures.value ∙ sym (get-by_key c.self.inside.attributes c.args.key.now)
    ∙ ap (λ (r : PlainResource). fin.get r.attributes c.args.key.now) c.self.view_is
