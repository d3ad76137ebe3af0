-- What a host hands in: the values of attributes, the kinds and statuses of spans, scopes and errors.
use Rattle.std.specs.Prelude.{◌≡◌, ◌==◌, ℕ, Bool, List, [], ◌∷◌, Option, Some, None, length, map, not}
use Rattle.std.specs.List.{flat_map}
use Rattle.opentelemetry.specs.Plain.{PlainKeyValue, PlainScope, PlainStatus, PlainValue, boolean, double, integer, text}
use Rattle.opentelemetry.specs.Plain.{booleans, doubles, error, integers, ok, texts, unset}
use Rattle.opentelemetry.specs.declared.trace.span_kind.SpanKind.{SpanKind}
use Rattle.otel_otlp.specs.OtlpSpan.{kind_number}
use Rattle.otel_pipeline.specs.Exceptions.{PlainException}
use Rattle.otel_embed.specs.declared.host_attribute.HostAttribute.{HostAttribute}
use Rattle.otel_embed.specs.declared.values.HostValue.{HostValue}
use Rattle.otel_embed.specs.declared.values.HostValue.TheVariants as host

-- texts that stand one after another, and how many bytes each has
pub record AreTexts (bytes : List ℕ) (lengths : List ℕ) (made : List (List ℕ)) : Type 0 where
  pub joined : flat_map (λ (text : List ℕ). text) made ≡ bytes
  pub cut : map length made ≡ lengths

-- the truth value of a byte: 0 is false, and every other number true
abbrev pub truth_of : ℕ → Bool
truth_of byte = not (byte == 0)

-- the value that is meant
abbrev pub IsValueOf : HostValue → PlainValue → Type 0
IsValueOf (host.Text bytes) value = value ≡ text bytes.now
IsValueOf (host.Integer number) value = value ≡ integer number
IsValueOf (host.Float number) value = value ≡ double number
IsValueOf (host.Truth truth) value = value ≡ boolean truth
IsValueOf (host.Texts bytes lengths) value =
    (made : List (List ℕ)) × AreTexts bytes.now lengths.now made × (value ≡ texts made)
IsValueOf (host.Integers numbers) value = value ≡ integers numbers.now
IsValueOf (host.Floats numbers) value = value ≡ doubles numbers.now
IsValueOf (host.Truths bytes) value = value ≡ booleans (map truth_of bytes.now)

-- an attribute as C has it says a value: the number of its kind says which of its members are that
abbrev pub SaysValue : HostAttribute → HostValue → Type 0
SaysValue attribute (host.Text bytes) = (attribute.kind ≡ 1) × (bytes.now ≡ attribute.bytes.now)
SaysValue attribute (host.Integer number) = (attribute.kind ≡ 2) × (number ≡ attribute.integer)
SaysValue attribute (host.Float number) = (attribute.kind ≡ 3) × (number ≡ attribute.number)
SaysValue attribute (host.Truth truth) = (attribute.kind ≡ 4) × (truth ≡ truth_of attribute.truth)
SaysValue attribute (host.Texts bytes lengths) =
    (attribute.kind ≡ 5) × (bytes.now ≡ attribute.bytes.now) × (lengths.now ≡ attribute.lengths.now)
SaysValue attribute (host.Integers numbers) = (attribute.kind ≡ 6) × (numbers.now ≡ attribute.integers.now)
SaysValue attribute (host.Floats numbers) = (attribute.kind ≡ 7) × (numbers.now ≡ attribute.numbers.now)
SaysValue attribute (host.Truths bytes) = (attribute.kind ≡ 8) × (bytes.now ≡ attribute.bytes.now)

-- the attribute that is meant
pub record IsAttributeOf (attribute : HostAttribute) (made : PlainKeyValue) : Type 0 where
  pub key : made.key ≡ attribute.key.now
  pub value : HostValue
  pub says : SaysValue attribute value
  pub is_value : IsValueOf value made.value

-- the attributes that are meant, in their order
abbrev pub AreAttributesOf : List HostAttribute → List PlainKeyValue → Type 0
AreAttributesOf [] made = made ≡ []
AreAttributesOf (attribute ∷ more) [] = ⊥
AreAttributesOf (attribute ∷ more) (one ∷ others) = IsAttributeOf attribute one × AreAttributesOf more others

-- the kind of a number, as the OpenTelemetry protocol counts them
abbrev pub IsKind : ℕ → SpanKind → Type 0
IsKind number kind = number ≡ kind_number kind

-- the status of a number: 0 is none, 1 says that it went well, 2 that it did not, and then why
abbrev pub IsStatus : ℕ → List ℕ → PlainStatus → Type 0
IsStatus code description unset = code ≡ 0
IsStatus code description ok = code ≡ 1
IsStatus code description (error said) = (code ≡ 2) × (said ≡ description)

-- a text that may be left out: without bytes it is
abbrev pub text_or_none : List ℕ → Option (List ℕ)
text_or_none [] = None
text_or_none (byte ∷ bytes) = Some (byte ∷ bytes)

-- the scope of a library, and an error
abbrev pub host_scope : List ℕ → List ℕ → List ℕ → PlainScope
host_scope name version schema_url = record {
  name = name;
  version = text_or_none version;
  schema_url = text_or_none schema_url;
  attributes = [];
}

abbrev pub host_exception : List ℕ → List ℕ → List ℕ → PlainException
host_exception exception_type message stacktrace = record {
  message = message;
  exception_type = text_or_none exception_type;
  stacktrace = text_or_none stacktrace;
}
