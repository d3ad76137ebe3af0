use Rattle.std.proofs.Common.{sym, ap, ◌∙◌}
use Rattle.std.proofs.lemmas.Bool.{eq-eqb, eqb-true}
use Rattle.std.specs.FinMap as fin
use Rattle.otel_resource.specs.Resource.{Attributes}
use Rattle.otel_resource.proofs.AttributeLemmas.{len-by_key}
use Rattle.otel_resource.proofs.SameLemmas.{same_maps}
use Rattle.otel_resource.proofs.resource.attributes.same_by_key.Goals as goal

pub returns-then-len : goal.returns-then-len
returns-then-len c = same_maps c.args.these.now c.args.those.now c.eq.result c.len.ensures.ordered c.len-2.ensures.ordered c.eq.ensures

pub returns-else-len : goal.returns-else-len
returns-else-len c = (
  λ h. absurd (c.if-len.false (eqb-true _ _ h)),
  λ e. eq-eqb _ _
      (c.len.ensures.len ∙ sym (len-by_key c.args.these.now c.len.ensures.ordered) ∙ ap (λ (m : Attributes). fin.len m) e
      ∙ len-by_key c.args.those.now c.len-2.ensures.ordered ∙ sym c.len-2.ensures.len),
)
