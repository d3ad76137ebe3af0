use Rattle.std.proofs.Common.{◌≡◌, [], List, string_bytes, sym, ap, subst, ◌∙◌, unwrap_or}
use Rattle.std.proofs.lemmas.Result.{IfOk-weaker}
use Rattle.std.specs.Option.{option_map}
use Rattle.opentelemetry.specs.Plain.{PlainKeyValue}
use Rattle.otel_resource.specs.Resource.{Attributes, union, of_attributes, attributes_of}
use Rattle.otel_resource.specs.AttributesString.{IsAttributesString}
use Rattle.otel_resource.proofs.AttributeLemmas.{by_key-empty, union-empty_left}
use Rattle.otel_resource.proofs.AttributesStringLemmas.{string_reads_once}
use Rattle.otel_resource.proofs.resource.env.EnvResourceDetectorResourceDetector.detect.Goals as goal

pub returns-in_ok-attributes-in-Some-clause-ok : goal.returns-in_ok-attributes-in-Some-clause-ok
returns-in_ok-attributes-in-Some-clause-ok c =
    let (pairs, reads, put) = c.in_ok-attributes-in-Some.ensures.ok in
    let given : c.as_str.result.now ≡ unwrap_or c.args.self.now [] =
    c.as_str.ensures.value ∙ ap (λ o. unwrap_or (option_map string_bytes o) []) (sym c.in-Some.is) ∙ ap (λ o. unwrap_or o []) c.self.view_is in
    let all = put ∙ ap (λ (m : Attributes). union m (attributes_of pairs)) (by_key-empty c.new.result c.new.ensures.empty) ∙ union-empty_left (attributes_of pairs) in
    IfOk-weaker c.of_attributes.result _ _
    (λ resource is. (pairs, subst (λ t. IsAttributesString t pairs) given reads, is ∙ ap (λ (m : Attributes). of_attributes m) all))
    c.of_attributes.ensures.ok

pub returns-in_ok-attributes-in-Some-clause-free : goal.returns-in_ok-attributes-in-Some-clause-free
returns-in_ok-attributes-in-Some-clause-free c = λ none.
    let (pairs, reads, put) = c.in_ok-attributes-in-Some.ensures.ok in
    let given : c.as_str.result.now ≡ unwrap_or c.args.self.now [] =
    c.as_str.ensures.value ∙ ap (λ o. unwrap_or (option_map string_bytes o) []) (sym c.in-Some.is) ∙ ap (λ o. unwrap_or o []) c.self.view_is in
    let nothing : pairs ≡ [] = string_reads_once _ pairs [] (subst (λ t. IsAttributesString t pairs) given reads) none in
    c.of_attributes.ensures.free
    (put ∙ ap (λ (m : Attributes). union m (attributes_of pairs)) (by_key-empty c.new.result c.new.ensures.empty) ∙ union-empty_left (attributes_of pairs)
    ∙ ap (λ (ps : List PlainKeyValue). attributes_of ps) nothing)
