use Rattle.std.proofs.Common.{◌≡◌, [], List, sym, ap, ◌∙◌, arith}
use Rattle.std.proofs.lemmas.Bool.{eqb-true}
use Rattle.opentelemetry.specs.Plain.{PlainKeyValue}
use Rattle.otel_resource.specs.Resource.{with_pairs}
use Rattle.otel_resource.proofs.AttributeLemmas.{nothing_in, merge-nothing}
use Rattle.otel_resource.proofs.resource.builder.ResourceBuilder.with_attributes.Goals as goal

pub returns-then-is_empty-clause-ok : goal.returns-then-is_empty-clause-ok
returns-then-is_empty-clause-ok c =
    let empty : c.args.attributes.items ≡ [] = nothing_in _ (let len = eqb-true _ _ (sym c.is_empty.ensures ∙ c.if-is_empty.true) in omega arith) in
    sym (merge-nothing c.args.self) ∙ ap (λ (ps : List PlainKeyValue). with_pairs c.args.self ps) (sym empty)
