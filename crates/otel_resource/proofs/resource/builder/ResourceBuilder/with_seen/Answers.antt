use Rattle.std.proofs.Common.{sym, ap, ◌∙◌}
use Rattle.otel_resource.specs.Resource.{Attributes, merge, of_attributes}
use Rattle.otel_resource.proofs.AttributeLemmas.{merge-nothing}
use Rattle.otel_resource.proofs.resource.builder.ResourceBuilder.with_seen.Goals as goal

pub returns-then-is_empty-clause-ok : goal.returns-then-is_empty-clause-ok
returns-then-is_empty-clause-ok c =
    let empty = c.is_empty.ensures.0 c.if-is_empty.true in
    sym (merge-nothing c.args.self) ∙ ap (λ (m : Attributes). merge c.args.self (of_attributes m)) (sym empty)
