-- The texts of a context: what sets one, and what W3C's propagators leave of none.
use Rattle.std.proofs.Common.{◌≡◌, ◌≢◌, ℕ, Bool, true, false, List, [], ◌∷◌, ◌++◌, Option, None, Some, Ok, Err, IsOk, refl, sym, ap, ◌∙◌, append_assoc}
use Rattle.std.specs.declared.alloc.AllocError.{AllocError}
use Rattle.opentelemetry.specs.Carrier.{IsOtherName, Texts}
use Rattle.opentelemetry.specs.Plain.{PlainContext}
use Rattle.opentelemetry.specs.PlainContexts.{current_span_context}
use Rattle.opentelemetry.specs.Tracestate.{tracestate_text}
use Rattle.otel_propagation.specs.BaggageHeader.{baggage_field}
use Rattle.otel_propagation.specs.StrictBaggage.{InjectsStrictBaggage, strict_header_of}
use Rattle.otel_propagation.specs.Traceparent.{InjectsTraceContext, traceparent_field, traceparent_of, tracestate_field}
use Rattle.otel_http.specs.ContextFields.{baggage_fields, context_fields}
use Rattle.otel_http.specs.ContextTexts.{field_if, fields_in}
use Rattle.otel_http.proofs.ContextFieldsLemmas.{are_not_valid, are_valid, fields_if, has_ids}

-- ---- all texts of a context

parent_is_other : IsOtherName traceparent_field baggage_field
parent_is_other same = absurd (cc)

state_is_other : IsOtherName tracestate_field baggage_field
state_is_other same = absurd (cc)

baggage_is_no_parent : IsOtherName baggage_field traceparent_field
baggage_is_no_parent same = absurd (cc)

baggage_is_no_state : IsOtherName baggage_field tracestate_field
baggage_is_no_state same = absurd (cc)

-- what the three names have
record Has (texts : Texts) (parent state baggage : Option (List ℕ)) : Type 0 where
  pub parent_is : texts traceparent_field ≡ parent
  pub state_is : texts tracestate_field ≡ state
  pub baggage_is : texts baggage_field ≡ baggage

fields_had : (texts : Texts) (parent state baggage : Option (List ℕ)) → Has texts parent state baggage
    → fields_in texts ≡ field_if traceparent_field parent ++ (field_if tracestate_field state ++ field_if baggage_field baggage)
fields_had texts parent state baggage has = rw (has.parent_is, has.state_is, has.baggage_is) refl

-- a baggage after what the other names have
baggage_after : (cx : PlainContext) (between all : Texts) (parent state : Option (List ℕ)) (header : List ℕ)
    → strict_header_of cx.baggage ≡ header → Has between parent state None → InjectsStrictBaggage cx between (Ok tt) all
    → fields_in all ≡ (field_if traceparent_field parent ++ field_if tracestate_field state) ++ baggage_fields header
baggage_after cx between all parent state [] is has injects =
    let same = (injects.nothing is).1 in
    fields_had all parent state None (record {
      parent_is = same traceparent_field ∙ has.parent_is;
      state_is = same tracestate_field ∙ has.state_is;
      baggage_is = same baggage_field ∙ has.baggage_is;
    })
    ∙ sym (append_assoc (field_if traceparent_field parent) (field_if tracestate_field state) [])
baggage_after cx between all parent state (b ∷ header) is has injects =
    let sets = injects.set (λ none. absurd (let no : b ∷ header ≡ [] = sym is ∙ none in cc)) in
    fields_had all parent state (Some (b ∷ header)) (record {
      parent_is = sets.others traceparent_field parent_is_other ∙ has.parent_is;
      state_is = sets.others tracestate_field state_is_other ∙ has.state_is;
      baggage_is = sets.set ∙ ap Some is;
    })
    ∙ sym (append_assoc (field_if traceparent_field parent) (field_if tracestate_field state) ((baggage_field, b ∷ header) ∷ []))

-- where no name had a text, the texts are those of the context
pub gathers : (cx : PlainContext) (none between all : Texts) → ((name : List ℕ) → none name ≡ None)
    → InjectsTraceContext cx none (Ok tt) between → InjectsStrictBaggage cx between (Ok tt) all
    → fields_in all ≡ context_fields cx
unfolding context_fields
gathers cx none between all empty span baggage = by (has_ids (current_span_context cx)) refl
  where
    by : (is_valid : Bool) → has_ids (current_span_context cx) ≡ is_valid
        → fields_in all ≡ fields_if is_valid (current_span_context cx) ++ baggage_fields (strict_header_of cx.baggage)
    by true is =
        let c = current_span_context cx in
        let sets = span.set (are_valid c is) in
        baggage_after cx between all (Some (traceparent_of c)) (Some (tracestate_text c.trace_state)) (strict_header_of cx.baggage) refl
        (record {
          parent_is = sets.parent;
          state_is = sets.state;
          baggage_is = sets.others baggage_field baggage_is_no_parent baggage_is_no_state ∙ empty baggage_field;
        })
        baggage
    by false is =
        let same = (span.nothing (are_not_valid (current_span_context cx) is)).1 in
        baggage_after cx between all None None (strict_header_of cx.baggage) refl
        (record {
          parent_is = same traceparent_field ∙ empty traceparent_field;
          state_is = same tracestate_field ∙ empty tracestate_field;
          baggage_is = same baggage_field ∙ empty baggage_field;
        })
        baggage

-- ---- there was no memory for a text

not_ok : (error : AllocError) → IsOk {T = Unit {0}} (Err error) → ⊥
not_ok error is = let no : false ≡ true = is in cc

-- for one of the span context
pub no_memory_for_span : (cx : PlainContext) (old new : Texts) (error : AllocError) → InjectsTraceContext cx old (Err error) new
    → context_fields cx ≢ []
unfolding context_fields
no_memory_for_span cx old new error injects = by (has_ids (current_span_context cx)) refl
  where
    by : (is_valid : Bool) → has_ids (current_span_context cx) ≡ is_valid
        → fields_if is_valid (current_span_context cx) ++ baggage_fields (strict_header_of cx.baggage) ≢ []
    by true is none = cc
    by false is none = absurd (not_ok error (injects.nothing (are_not_valid (current_span_context cx) is)).0)

-- for that of the baggage
pub no_memory_for_baggage : (cx : PlainContext) (old new : Texts) (error : AllocError)
    → InjectsStrictBaggage cx old (Err error) new
    → context_fields cx ≢ []
unfolding context_fields
no_memory_for_baggage cx old new error injects = by (strict_header_of cx.baggage) refl (has_ids (current_span_context cx))
  where
    by : (header : List ℕ) → strict_header_of cx.baggage ≡ header → (is_valid : Bool)
        → fields_if is_valid (current_span_context cx) ++ baggage_fields header ≢ []
    by [] is is_valid none = absurd (not_ok error (injects.nothing is).0)
    by (b ∷ header) is true none = cc
    by (b ∷ header) is false none = cc
