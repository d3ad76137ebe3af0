use Rattle.std.proofs.Common.{◌≡◌, [], IfOk, string_bytes, sym, ap, subst, ◌∙◌, arith}
use Rattle.std.proofs.lemmas.Bool.{eqb-true}
use Rattle.otel_resource.specs.Resource.{PlainResource, Attributes, merge, union, of_pairs, attributes_of}
use Rattle.otel_resource.proofs.AttributeLemmas.{nothing_in, by_key-empty, union-empty_left, merge-nothing_left}
use Rattle.otel_resource.proofs.resource.builder.ResourceBuilder.with_schema_url.Goals as goal

pub returns-then-is_empty-2-clause-ok : goal.returns-then-is_empty-2-clause-ok
returns-then-is_empty-2-clause-ok c =
    let no_attributes : c.args.attributes.items ≡ [] =
    nothing_in _ (let len = eqb-true _ _ (sym c.is_empty.ensures ∙ c.if-is_empty.true) in omega arith) in
    let no_schema : string_bytes c.args.schema_url ≡ [] =
    nothing_in _ (let len = eqb-true _ _ (sym c.is_empty-then-is_empty.ensures ∙ c.if-is_empty-2.true) in omega arith) in
    sym (merge-nothing_left c.args.self) ∙ (λ i. merge (of_pairs (sym no_attributes i) (sym no_schema i)) c.args.self)

pub returns-clause-ok : goal.returns-clause-ok
returns-clause-ok c =
    let pairs = attributes_of c.args.attributes.items in
    let given = c.in_ok-put_pairs.ensures ∙ ap (λ (m : Attributes). union m pairs) (by_key-empty c.new.result c.new.ensures.empty) ∙ union-empty_left pairs in
    let right = c.in_ok-into_parts.ensures ∙ c.self.view_is in
    let parts = c.in_ok-parts.ensures ∙ (λ i. merge (record { attributes = given i; schema_url = string_bytes c.args.schema_url }) (right i)) in
    subst (λ (r : PlainResource). IfOk c.of_parts.result (λ built. built ≡ r)) parts c.of_parts.ensures
