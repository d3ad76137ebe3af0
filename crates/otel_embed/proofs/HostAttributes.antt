-- One more attribute that a host means.
use Rattle.std.proofs.Common.{◌≡◌, ◌++◌, ◌∷◌, ◌+◌, ◌<◌, ℕ, List, [], get_or, length, refl, subst, sym, take}
use Rattle.std.proofs.lemmas.List.{take_more}
use Rattle.opentelemetry.specs.Plain.{PlainKeyValue}
use Rattle.otel_embed.specs.HostValues.{AreAttributesOf, IsAttributeOf}
use Rattle.otel_embed.specs.declared.host_attribute.HostAttribute.{HostAttribute}

attributes_then : (before : List HostAttribute) (made : List PlainKeyValue) (attribute : HostAttribute) (one : PlainKeyValue) → AreAttributesOf before made → IsAttributeOf attribute one
    → AreAttributesOf (before ++ attribute ∷ []) (made ++ one ∷ [])
attributes_then [] [] attribute one are is = (is, refl)
attributes_then [] (m ∷ ms) attribute one are is = absurd cc
attributes_then (b ∷ bs) [] attribute one are is = absurd are
attributes_then (b ∷ bs) (m ∷ ms) attribute one are is = (are.0, attributes_then bs ms attribute one are.1 is)

pub attributes_more : (all : List HostAttribute) (i : ℕ) (default : HostAttribute) (made : List PlainKeyValue) (one : PlainKeyValue) (new : List PlainKeyValue) → i < length all
    → AreAttributesOf (take i all) made → IsAttributeOf (get_or all i default) one → new ≡ made ++ one ∷ [] → AreAttributesOf (take (i + 1) all) new
attributes_more all i default made one new within are is e =
    subst (λ (l : List PlainKeyValue). AreAttributesOf (take (i + 1) all) l) (sym e)
    (subst (λ (l : List HostAttribute). AreAttributesOf l (made ++ one ∷ [])) (sym (take_more all i default within))
    (attributes_then (take i all) made (get_or all i default) one are is))
