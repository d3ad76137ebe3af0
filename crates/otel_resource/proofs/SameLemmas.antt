-- Resources that say the same.
use Rattle.std.proofs.Common.{◌≡◌, ℕ, Bool, ◌&&◌, List, [], sym, ap, ◌∙◌, eqb}
use Rattle.std.proofs.lemmas.Bool.{eq-eqb, eqb-true}
use Rattle.std.proofs.lemmas.Bool.Decides.{same_from_decides, Decides-at}
use Rattle.std.specs.Bool.{Decides}
use Rattle.std.specs.Cmp.Lexicographic.{pointwise}
use Rattle.std.specs.FinMap as fin
use Rattle.std.specs.BTreeMap as tree
use Rattle.std.specs.BTreeMap.{BTreeMap}
use Rattle.opentelemetry.specs.Plain.{PlainValue}
use Rattle.opentelemetry.specs.PlainValues.{plain_value}
use Rattle.opentelemetry.specs.Same.{same_text, same_value, pointwise_map}
use Rattle.opentelemetry.specs.declared.common.Value.{Value}
use Rattle.otel_resource.specs.Resource.{PlainResource, empty_resource, by_key}
use Rattle.otel_resource.specs.SameResource.{same_attribute_entry, same_description, same_by_key_decides, same_description_decides}
use Rattle.otel_resource.proofs.AttributeLemmas.{key_cmp, entries-by_key}

-- two maps are compared entry by entry
pub same_maps : (m n : BTreeMap (List ℕ) Value) (r : Bool) → tree.IsOrdered key_cmp m → tree.IsOrdered key_cmp n
    → r ≡ pointwise (λ p q. same_text p.0 q.0 && same_value (plain_value p.1) (plain_value q.1)) m.entries n.entries → Decides r (by_key m ≡ by_key n)
same_maps m n r om on e =
    let plain : List ℕ × Value → List ℕ × PlainValue = λ p. (p.0, plain_value p.1) in
    Decides-at r (pointwise same_attribute_entry (fin.entries (by_key m)) (fin.entries (by_key n)))
    (e ∙ sym (pointwise_map plain same_attribute_entry m.entries n.entries)
    ∙ (λ i. pointwise same_attribute_entry (sym (entries-by_key m om) i) (sym (entries-by_key n on) i)))
    (same_by_key_decides (by_key m) (by_key n))

-- a test that is true exactly at equal resources is the comparison
pub compared : (r : Bool) (a b x y : PlainResource) → a ≡ x → b ≡ y → Decides r (a ≡ b) → r ≡ same_description x y
compared r a b x y e f d = same_from_decides r (same_description a b) d (same_description_decides a b) ∙ (λ i. same_description (e i) (f i))

-- a resource without schema says nothing where it has no attributes
pub nothing_said : (r : PlainResource) (n : ℕ) → n ≡ fin.len r.attributes → r.schema_url ≡ [] → Decides (eqb n 0) (r ≡ empty_resource)
nothing_said r n e none = (
  λ h. λ i. record { attributes = fin.empty_of_len r.attributes (sym e ∙ eqb-true n 0 h) i; schema_url = none i },
  λ h. eq-eqb n 0 (e ∙ ap (λ (x : PlainResource). fin.len x.attributes) h ∙ fin.len-empty key_cmp PlainValue),
)
