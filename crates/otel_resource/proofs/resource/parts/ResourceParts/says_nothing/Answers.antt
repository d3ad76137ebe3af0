use Rattle.std.proofs.Common.{◌≡◌, [], string_bytes, sym, ap, ◌∙◌, arith}
use Rattle.std.proofs.lemmas.Bool.{eqb-true}
use Rattle.otel_resource.specs.Resource.{PlainResource}
use Rattle.otel_resource.proofs.AttributeLemmas.{nothing_in}
use Rattle.otel_resource.proofs.SameLemmas.{nothing_said}
use Rattle.otel_resource.proofs.resource.parts.ResourceParts.says_nothing.Goals as goal

pub returns-then-is_empty : goal.returns-then-is_empty
returns-then-is_empty c =
    let empty : string_bytes c.self.inside.schema_url ≡ [] = nothing_in _ (let len = eqb-true _ _ (sym c.is_empty.ensures ∙ c.if-is_empty.true) in omega arith) in
    nothing_said c.args.self.now c.len.result c.len.ensures (sym (ap (λ (r : PlainResource). r.schema_url) c.self.view_is) ∙ empty)
