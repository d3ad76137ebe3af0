-- Whether two events, links, scopes or baggages are the same, part by part. Each test is true exactly at equal values.
use Rattle.std.specs.Prelude.{◌≡◌, Bool, ◌&&◌, List, Option, None, Some, refl, ◌==◌}
use Rattle.std.specs.Bool.{Decides}
use Rattle.std.specs.Option.{option_eq}
use Rattle.std.specs.Cmp.Lexicographic.{pointwise, pointwise_decides}
use Rattle.std.proofs.Common.{ap}
use Rattle.std.proofs.lemmas.Bool.Decides.{Decides-eqb, Decides-like, Decides-and}
use Rattle.opentelemetry.specs.Baggage.{PlainBaggage, PlainBaggageEntry}
use Rattle.opentelemetry.specs.Plain.{PlainKeyValue, PlainEvent, PlainLink, PlainScope}
use Rattle.opentelemetry.specs.Same.{same_text, same_text_decides, same_attribute, same_attribute_decides}
use Rattle.opentelemetry.specs.Same.{same_span_context, same_span_context_decides}

-- whether two lists of attributes are the same
abbrev pub same_attributes : List PlainKeyValue → List PlainKeyValue → Bool
same_attributes = pointwise same_attribute

pub same_attributes_decides : (a b : List PlainKeyValue) → Decides (same_attributes a b) (a ≡ b)
same_attributes_decides = pointwise_decides same_attribute_decides

pub option_eq_decides : {X : Type 0} {E : X → X → Bool} → ((x y : X) → Decides (E x y) (x ≡ y))
    → (a b : Option X) → Decides (option_eq E a b) (a ≡ b)
option_eq_decides d None None = (λ _. refl, λ _. refl)
option_eq_decides d None (Some y) = (λ h. cc, λ e. cc)
option_eq_decides d (Some x) None = (λ h. cc, λ e. cc)
option_eq_decides {E = E} d (Some x) (Some y) = Decides-like (E x y) (ap (λ v. Some v)) (λ e. cc) (d x y)

-- whether two events are the same
abbrev pub same_event : PlainEvent → PlainEvent → Bool
same_event a b = same_text a.name b.name && ((a.timestamp == b.timestamp)
    && (same_attributes a.attributes b.attributes && (a.dropped_attributes_count == b.dropped_attributes_count)))

pub same_event_decides : (a b : PlainEvent) → Decides (same_event a b) (a ≡ b)
same_event_decides a b =
    Decides-like (same_event a b)
    (λ e. λ i. record {
      name = e.0 i;
      timestamp = e.1.0 i;
      attributes = e.1.1.0 i;
      dropped_attributes_count = e.1.1.1 i;
    })
    (λ e. (
      ap (λ x. x.name) e,
      (ap (λ x. x.timestamp) e, (ap (λ x. x.attributes) e, ap (λ x. x.dropped_attributes_count) e)),
    ))
    (Decides-and _ _ (same_text_decides a.name b.name)
    (Decides-and _ _ (Decides-eqb a.timestamp b.timestamp)
    (Decides-and _ _ (same_attributes_decides a.attributes b.attributes)
    (Decides-eqb a.dropped_attributes_count b.dropped_attributes_count))))

-- whether two links are the same
abbrev pub same_link : PlainLink → PlainLink → Bool
same_link a b = same_span_context a.span_context b.span_context
    && (same_attributes a.attributes b.attributes && (a.dropped_attributes_count == b.dropped_attributes_count))

pub same_link_decides : (a b : PlainLink) → Decides (same_link a b) (a ≡ b)
same_link_decides a b =
    Decides-like (same_link a b)
    (λ e. λ i. record { span_context = e.0 i; attributes = e.1.0 i; dropped_attributes_count = e.1.1 i })
    (λ e. (ap (λ x. x.span_context) e, (ap (λ x. x.attributes) e, ap (λ x. x.dropped_attributes_count) e)))
    (Decides-and _ _ (same_span_context_decides a.span_context b.span_context)
    (Decides-and _ _ (same_attributes_decides a.attributes b.attributes)
    (Decides-eqb a.dropped_attributes_count b.dropped_attributes_count)))

-- whether two scopes are the same
abbrev pub same_scope : PlainScope → PlainScope → Bool
same_scope a b = same_text a.name b.name && (option_eq same_text a.version b.version
    && (option_eq same_text a.schema_url b.schema_url && same_attributes a.attributes b.attributes))

pub same_scope_decides : (a b : PlainScope) → Decides (same_scope a b) (a ≡ b)
same_scope_decides a b =
    Decides-like (same_scope a b)
    (λ e. λ i. record { name = e.0 i; version = e.1.0 i; schema_url = e.1.1.0 i; attributes = e.1.1.1 i })
    (λ e. (ap (λ x. x.name) e, (ap (λ x. x.version) e, (ap (λ x. x.schema_url) e, ap (λ x. x.attributes) e))))
    (Decides-and _ _ (same_text_decides a.name b.name)
    (Decides-and _ _ (option_eq_decides same_text_decides a.version b.version)
    (Decides-and _ _ (option_eq_decides same_text_decides a.schema_url b.schema_url)
    (same_attributes_decides a.attributes b.attributes))))

-- whether two entries of a baggage are the same
abbrev pub same_entry : PlainBaggageEntry → PlainBaggageEntry → Bool
same_entry a b = same_text a.key b.key && (same_text a.value b.value && same_text a.metadata b.metadata)

pub same_entry_decides : (a b : PlainBaggageEntry) → Decides (same_entry a b) (a ≡ b)
same_entry_decides a b =
    Decides-like (same_entry a b)
    (λ e. λ i. record { key = e.0 i; value = e.1.0 i; metadata = e.1.1 i })
    (λ e. (ap (λ x. x.key) e, (ap (λ x. x.value) e, ap (λ x. x.metadata) e)))
    (Decides-and _ _ (same_text_decides a.key b.key)
    (Decides-and _ _ (same_text_decides a.value b.value) (same_text_decides a.metadata b.metadata)))

-- whether two baggages are the same, in the same order
abbrev pub same_baggage : PlainBaggage → PlainBaggage → Bool
same_baggage = pointwise same_entry

pub same_baggage_decides : (a b : PlainBaggage) → Decides (same_baggage a b) (a ≡ b)
same_baggage_decides = pointwise_decides same_entry_decides
