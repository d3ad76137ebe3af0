-- Whether two resources say the same. The test is true exactly at equal ones.
use Rattle.std.specs.Prelude.{◌≡◌, ℕ, Bool, ◌&&◌, List}
use Rattle.std.proofs.Common.{ap}
use Rattle.std.proofs.lemmas.Bool.Decides.{Decides-and, Decides-like}
use Rattle.std.specs.Bool.{Decides}
use Rattle.std.specs.Cmp.Lexicographic.{pointwise, pointwise_decides}
use Rattle.std.specs.FinMap.{entries, same_entries_map}
use Rattle.opentelemetry.specs.Plain.{PlainValue}
use Rattle.opentelemetry.specs.Same.{same_text, same_text_decides, same_value, same_value_decides}
use Rattle.otel_resource.specs.Resource.{Attributes, PlainResource}

-- whether two pairs have the same key and value
abbrev pub same_attribute_entry : List ℕ × PlainValue → List ℕ × PlainValue → Bool
same_attribute_entry p q = same_text p.0 q.0 && same_value p.1 q.1

-- whether two resources have the same attributes and the same schema
abbrev pub same_description : PlainResource → PlainResource → Bool
same_description a b =
    pointwise same_attribute_entry (entries a.attributes) (entries b.attributes) && same_text a.schema_url b.schema_url

pub same_attribute_entry_decides : (p q : List ℕ × PlainValue) → Decides (same_attribute_entry p q) (p ≡ q)
same_attribute_entry_decides p q =
    Decides-like (same_attribute_entry p q) (λ e. λ i. (e.0 i, e.1 i)) (λ e. (ap (λ x. x.0) e, ap (λ x. x.1) e))
    (Decides-and (same_text p.0 q.0) (same_value p.1 q.1) (same_text_decides p.0 q.0) (same_value_decides p.1 q.1))

pub same_by_key_decides : (a b : Attributes)
    → Decides (pointwise same_attribute_entry (entries a) (entries b)) (a ≡ b)
same_by_key_decides a b =
    Decides-like (pointwise same_attribute_entry (entries a) (entries b)) (same_entries_map a b)
    (ap (λ (m : Attributes). entries m)) (pointwise_decides same_attribute_entry_decides (entries a) (entries b))

pub same_description_decides : (a b : PlainResource) → Decides (same_description a b) (a ≡ b)
same_description_decides a b =
    Decides-like (same_description a b) (λ e. λ i. record { attributes = e.0 i; schema_url = e.1 i })
    (λ e. (ap (λ x. x.attributes) e, ap (λ x. x.schema_url) e))
    (Decides-and (pointwise same_attribute_entry (entries a.attributes) (entries b.attributes))
    (same_text a.schema_url b.schema_url)
    (same_by_key_decides a.attributes b.attributes) (same_text_decides a.schema_url b.schema_url))
