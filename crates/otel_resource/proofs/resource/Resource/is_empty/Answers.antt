use Rattle.std.proofs.Common.{sym, ap, ◌∙◌}
use Rattle.std.proofs.lemmas.Bool.{eq-eqb, eqb-true}
use Rattle.std.specs.FinMap as fin
use Rattle.opentelemetry.specs.Plain.{PlainValue}
use Rattle.otel_resource.specs.Resource.{Attributes}
use Rattle.otel_resource.proofs.AttributeLemmas.{key_cmp}
use Rattle.otel_resource.proofs.resource.Resource.is_empty.Goals as goal

pub returns : goal.returns
returns c = (
  λ none. fin.empty_of_len _ (sym c.len.ensures ∙ eqb-true _ _ none),
  λ none. eq-eqb _ _ (c.len.ensures ∙ ap (λ (m : Attributes). fin.len m) none ∙ fin.len-empty key_cmp PlainValue),
)
