use Rattle.std.proofs.Common.{sym, ap, ◌∙◌, map}
use Rattle.std.specs.FinMap as fin
use Rattle.opentelemetry.specs.PlainValues.{plain_value}
use Rattle.otel_resource.specs.Resource.{PlainResource}
use Rattle.otel_resource.proofs.AttributeLemmas.{entries-by_key}
use Rattle.otel_resource.proofs.resource.parts.ResourceParts.iter.Goals as goal

pub returns : goal.returns
returns c =
    ap (map (λ e. (e.0, plain_value e.1))) c.iter.ensures.rest ∙ sym (entries-by_key c.self.inside.attributes c.iter.ensures.ordered)
    ∙ ap (λ (r : PlainResource). fin.entries r.attributes) c.self.view_is
