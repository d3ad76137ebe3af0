-- Resources as numbers and lists: a map in a model has values that are stored so, since only then can two be told apart.
use Rattle.std.proofs.Common.{inl, inr, refl}
use Rattle.std.specs.Prelude.{◌≡◌, ℕ, ℤ, Bool, ◌⊎◌, List}
use Rattle.std.specs.Coded.{Coded, code_by, coded_ℕ, coded_ℤ, coded_bool, coded_list, coded×, coded⊎}
use Rattle.std.specs.FinMap.{code}
use Rattle.std.specs.Float.Ieee.{Float}
use base.Stored.{coded_float}
use Rattle.opentelemetry.specs.Plain.{PlainValue, boolean, integer, text, booleans, integers, texts, double, doubles}
use Rattle.otel_resource.specs.Resource.{Attributes, PlainResource}

-- the kinds of a value, one beside the other
abbrev pub Kinds : Type 0
Kinds = Bool ⊎ (ℤ ⊎ (List ℕ ⊎ (List Bool ⊎ (List ℤ ⊎ (List (List ℕ) ⊎ (Float ⊎ List Float))))))

-- a value as one of its kind
abbrev pub kind_of : PlainValue → Kinds
kind_of (boolean b) = inl b
kind_of (integer n) = inr (inl n)
kind_of (text t) = inr (inr (inl t))
kind_of (booleans bs) = inr (inr (inr (inl bs)))
kind_of (integers ns) = inr (inr (inr (inr (inl ns))))
kind_of (texts ts) = inr (inr (inr (inr (inr (inl ts)))))
kind_of (double x) = inr (inr (inr (inr (inr (inr (inl x))))))
kind_of (doubles xs) = inr (inr (inr (inr (inr (inr (inr xs))))))

-- the value of a kind
abbrev pub of_kind : Kinds → PlainValue
of_kind (inl b) = boolean b
of_kind (inr (inl n)) = integer n
of_kind (inr (inr (inl t))) = text t
of_kind (inr (inr (inr (inl bs)))) = booleans bs
of_kind (inr (inr (inr (inr (inl ns))))) = integers ns
of_kind (inr (inr (inr (inr (inr (inl ts)))))) = texts ts
of_kind (inr (inr (inr (inr (inr (inr (inl x))))))) = double x
of_kind (inr (inr (inr (inr (inr (inr (inr xs))))))) = doubles xs

-- no value is lost; it stands here since the code of a value is made of it
pub of_kind-kind_of : (v : PlainValue) → of_kind (kind_of v) ≡ v
of_kind-kind_of (boolean b) = refl
of_kind-kind_of (integer n) = refl
of_kind-kind_of (text t) = refl
of_kind-kind_of (booleans bs) = refl
of_kind-kind_of (integers ns) = refl
of_kind-kind_of (texts ts) = refl
of_kind-kind_of (double x) = refl
of_kind-kind_of (doubles xs) = refl

-- how the kinds are stored
abbrev pub kinds_code : Coded Kinds
kinds_code =
    coded⊎ coded_bool (coded⊎ coded_ℤ (coded⊎ (coded_list coded_ℕ)
    (coded⊎ (coded_list coded_bool) (coded⊎ (coded_list coded_ℤ) (coded⊎ (coded_list (coded_list coded_ℕ))
    (coded⊎ coded_float (coded_list coded_float)))))))

-- how a value is stored
abbrev pub value_code : Coded PlainValue
value_code = code_by Kinds kinds_code kind_of of_kind of_kind-kind_of

-- how a resource is stored
abbrev pub resource_code : Coded PlainResource
resource_code =
    code_by (Attributes × List ℕ) (coded× (code (coded_list coded_ℕ) value_code) (coded_list coded_ℕ))
    (λ r. (r.attributes, r.schema_url)) (λ p. record { attributes = p.0; schema_url = p.1 }) (λ _. refl)
