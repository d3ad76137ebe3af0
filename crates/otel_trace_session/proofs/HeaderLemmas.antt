-- What is said of headers, by what a propagator injects and extracts.
use Rattle.std.proofs.Common.{◌≡◌, ℕ, ◌<◌, List, [], Option, None, Some, Ok, ◌⊎◌, inl, inr, zero, suc, refl, sym, ap, subst, ◌∙◌, arith, rules}
use Rattle.std.proofs.lemmas.Option.{none-some, same_Some}
use Rattle.std.specs.FinMap as fin
use Rattle.std.specs.Ordering.{nat_cmp}
use Rattle.std.specs.Cmp.Lexicographic.{slice_cmp}
use Rattle.std.specs.Str.{str_to_ascii_lowercase}
use Rattle.opentelemetry.specs.PlainContexts.{current_span_context, root_cx}
use Rattle.opentelemetry.specs.Carrier.{Texts, IsOtherName, SetsText}
use Rattle.opentelemetry.specs.TextMap.{TextMap, texts_of}
use Rattle.opentelemetry.specs.Plain.{PlainContext}
use Rattle.opentelemetry.specs.Tracestate.{tracestate_text}
use Rattle.otel_propagation.specs.Traceparent.{ExtractsTraceContext, InjectsTraceContext, IsTraceparent, IsValid, SaysState, header_text, traceparent_field, traceparent_of, tracestate_field}
use Rattle.otel_trace_session.specs.Headers.{SaysContext}

-- a span context is valid or not
positive_or_zero : (n : ℕ) → (0 < n) ⊎ (n ≡ 0)
positive_or_zero zero = inr refl
positive_or_zero (suc n) = inl (omega arith)

valid_by : (trace_id span_id : ℕ) → (0 < trace_id) ⊎ (trace_id ≡ 0) → (0 < span_id) ⊎ (span_id ≡ 0) → ((0 < trace_id) × (0 < span_id)) ⊎ ¬ ((0 < trace_id) × (0 < span_id))
valid_by t s (inl a) (inl b) = inl (a, b)
valid_by t s (inr e) b = inr (λ v. omega (arith, e, v.0))
valid_by t s (inl a) (inr e) = inr (λ v. omega (arith, e, v.1))

-- a new carrier has no text
pub no_text : (m : TextMap) (name : List ℕ) → m ≡ fin.empty → texts_of m name ≡ None
no_text m name e = ap (λ (m : TextMap). texts_of m name) e ∙ fin.get-empty (slice_cmp nat_cmp) (str_to_ascii_lowercase name)

-- both headers that a carrier then has are those of a valid span context, where it had none
pub headers_injected : (cx : PlainContext) (old new : Texts) (parent state : List ℕ) → InjectsTraceContext cx old (Ok tt) new
    → old traceparent_field ≡ None → Some parent ≡ new traceparent_field → Some state ≡ new tracestate_field
    → IsValid (current_span_context cx) × (parent ≡ traceparent_of (current_span_context cx)) × (state ≡ tracestate_text (current_span_context cx).trace_state)
headers_injected cx old new parent state injects none has_parent has_state =
    by (valid_by (current_span_context cx).trace_id (current_span_context cx).span_id (positive_or_zero (current_span_context cx).trace_id) (positive_or_zero (current_span_context cx).span_id))
  where
    by : IsValid (current_span_context cx) ⊎ ¬ (IsValid (current_span_context cx)) → IsValid (current_span_context cx) × (parent ≡ traceparent_of (current_span_context cx)) × (state ≡ tracestate_text (current_span_context cx).trace_state)
    by (inl valid) =
        let set = injects.set valid in
        (valid, same_Some parent _ (has_parent ∙ set.parent), same_Some state _ (has_state ∙ set.state))
    by (inr not_valid) = absurd (none-some parent (sym none ∙ sym ((injects.nothing not_valid).1 traceparent_field) ∙ sym has_parent))

names_differ : IsOtherName tracestate_field traceparent_field
names_differ = search rules

-- what is extracted where a `traceparent` stands alone is what it says
pub says_alone : (header : List ℕ) (old texts : Texts) (cx found : PlainContext) → cx ≡ root_cx → old tracestate_field ≡ None → SetsText old texts traceparent_field header
    → ExtractsTraceContext cx texts found → SaysContext header found
says_alone header old texts cx found root none sets extracts =
    let is_parent : header_text (texts traceparent_field) ≡ header = ap header_text sets.set in
    let no_state : texts tracestate_field ≡ None = sets.others tracestate_field names_differ ∙ none in
    record {
      read = λ c is.
          let read = extracts.read c (subst (λ (text : List ℕ). IsTraceparent text c) (sym is_parent) is) in
          let stateless : read.0 ≡ [] = subst (λ (o : Option (List ℕ)). SaysState o read.0) no_state read.1 in
          read.2 ∙ (λ k. record (root k) { span_context = Some (record c { trace_state = (stateless ∙ sym is.stateless) k }) });
      none = λ says_none. extracts.as_it_was (λ c is. says_none c (subst (λ (text : List ℕ). IsTraceparent text c) is_parent is)) ∙ root;
    }
