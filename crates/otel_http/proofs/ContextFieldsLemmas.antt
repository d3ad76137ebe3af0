-- What fields that were set in turn leave: the texts of a context, and the fields of other names.
use Rattle.std.proofs.Common.{◌≡◌, ◌≢◌, ℕ, Bool, true, false, ◌&&◌, not, cond, List, [], ◌∷◌, ◌++◌, All, Option, None, Some, Ok, Err, IsSome, IsTrue, OnErr, OnOk, Result, alloc_error, bytes_eq, filter, fold, nat_lt, option_map, refl, sym, ap, ◌∙◌, inl, inr, subst, arith}
use Rattle.std.specs.List.{list_any}
use Rattle.std.specs.Prelude.{if◌then◌else◌}
use Rattle.std.proofs.lemmas.Bool.{and_parts, cases_Bool, ltb-true}
use Rattle.std.proofs.lemmas.Bool.Decides.{nat_tests}
use Rattle.std.proofs.lemmas.List.Elements.{All-append, All-cons, All-head, All-nil, All-tail}
use Rattle.std.proofs.lemmas.List.Sums.{fold-append}
use Rattle.std.proofs.lemmas.Slice.Eq.{bytes_eq-Decides}
use Rattle.http_header.specs.FieldValue.{FieldValue, plain_value}
use Rattle.http_header.specs.HeaderMap.{insert}
use Rattle.http_header.specs.Token.{lowercase}
use Rattle.opentelemetry.specs.Carrier.{SetsText, Texts}
use Rattle.opentelemetry.specs.Plain.{PlainContext, PlainSpanContext}
use Rattle.opentelemetry.specs.PlainContexts.{current_span_context}
use Rattle.opentelemetry.specs.Tracestate.{tracestate_text}
use Rattle.otel_propagation.specs.BaggageHeader.{baggage_field}
use Rattle.otel_propagation.specs.StrictBaggage.{InjectsStrictBaggage, strict_header_of}
use Rattle.otel_propagation.specs.Traceparent.{InjectsTraceContext, IsValid, SetsHeaders, traceparent_field, traceparent_of, tracestate_field}
use Rattle.otel_propagation.proofs.TraceparentLemmas.{both_set}
use Rattle.otel_http.specs.ContextFields.{SetsFields, SetsUpTo, TextField, baggage_fields, context_fields, context_names, other_fields, set_field, span_fields}
use Rattle.otel_http.specs.ContextTexts.{field_if}
use Rattle.otel_http.specs.Contexts.{InjectsContext}
use Rattle.otel_http.specs.Fields.{is_field_content}
use Rattle.otel_http.specs.Headers.{Headers, header_texts}
use Rattle.otel_http.specs.Injection.{carrier_answer}
use Rattle.otel_http.specs.declared.header_injector.SetHeaderError.{SetHeaderError}
use Rattle.otel_http.proofs.HeadersLemmas.{text_is_set}

-- ---- fields in turn

abbrev IsContent : TextField → Type 0
IsContent field = IsTrue (is_field_content field.1)

pub none_set : (headers : Headers) → SetsFields headers [] headers
none_set headers = record { content = All-nil IsContent; sets = refl }

-- of some fields none was set
pub none_of : (fields : List TextField) (headers : Headers) → fields ≢ [] → SetsUpTo headers fields headers
none_of [] headers some = absurd (some refl)
none_of (field ∷ fields) headers some = record {
  front = [];
  refused = field;
  left = fields;
  are = refl;
  sets = none_set headers;
}

-- fields were set, and then others
pub then_set : (old between new : Headers) (front back : List TextField) → SetsFields old front between
    → SetsFields between back new → SetsFields old (front ++ back) new
then_set old between new front back first second = record {
  content = All-append IsContent front back first.content second.content;
  sets =
      second.sets ∙ ap (λ (h : Headers). fold set_field h back) first.sets
      ∙ sym (fold-append set_field old front back);
}

-- fields were set up to that of a text
pub refused_at : {X : Type 0} (bytes : X → List ℕ) (text : Option X) (name : List ℕ) (old between new : Headers)
    (front left all : List TextField) → SetsFields old front between → IsSome text × (new ≡ between)
    → all ≡ front ++ (field_if name (option_map bytes text) ++ left) → SetsUpTo old all new
refused_at bytes None name old between new front left all sets is are = absurd (let no : false ≡ true = is.0 in cc)
refused_at bytes (Some text) name old between new front left all sets is are = record {
  front = front;
  refused = (name, bytes text);
  left = left;
  are = are;
  sets = rw is.1 sets;
}

-- the first field was set, and then the others
record SetsFirst (old : Headers) (field : TextField) (fields : List TextField) (new : Headers) : Type 0 where
  pub text : SetsText (header_texts old) (header_texts (set_field old field)) field.0 field.1
  pub others : SetsFields (set_field old field) fields new

first_set : (old : Headers) (field : TextField) (fields : List TextField) (new : Headers)
    → SetsFields old (field ∷ fields) new → SetsFirst old field fields new
first_set old field fields new sets = record {
  text = text_is_set old field.0 field.1 (All-head IsContent field fields sets.content);
  others = record { content = All-tail IsContent field fields sets.content; sets = sets.sets };
}

-- ---- the fields of other names

abbrev is_other : List (List ℕ) → List ℕ × List FieldValue → Bool
is_other names entry = not (list_any (bytes_eq entry.0) names)

insert_keeps : (names : List (List ℕ)) (headers : Headers) (name : List ℕ) (value : FieldValue)
    → list_any (bytes_eq name) names ≡ true
    → filter (is_other names) (insert headers name value) ≡ filter (is_other names) headers
insert_keeps names [] name value among = rw among refl
insert_keeps names (e ∷ headers) name value among =
    elim (cases_Bool (bytes_eq e.0 name)) [
      | inl t ↦
          let is : list_any (bytes_eq e.0) names ≡ true = subst (λ (n : List ℕ). list_any (bytes_eq n) names ≡ true) (sym ((bytes_eq-Decides e.0 name).0 t)) among in
          rw t (rw is refl)
      | inr f ↦
          rw f (ap (λ (rest : Headers). cond (is_other names e) (e ∷ rest) rest) (insert_keeps names headers name value among))
    ]

abbrev IsAmong : List (List ℕ) → TextField → Type 0
IsAmong names field = list_any (bytes_eq (lowercase field.0)) names ≡ true

fields_keep : (names : List (List ℕ)) (headers : Headers) (fields : List TextField) → All (IsAmong names) fields
    → filter (is_other names) (fold set_field headers fields) ≡ filter (is_other names) headers
fields_keep names headers [] among = refl
fields_keep names headers (field ∷ fields) among =
    fields_keep names (set_field headers field) fields (All-tail (IsAmong names) field fields among)
    ∙ insert_keeps names headers (lowercase field.0) (plain_value field.1) (All-head (IsAmong names) field fields among)

-- the fields of a span context, or none
abbrev pub fields_if : Bool → PlainSpanContext → List TextField
fields_if is_valid c =
    if is_valid then (traceparent_field, traceparent_of c) ∷ (tracestate_field, tracestate_text c.trace_state) ∷ [] else []

span_among : (is_valid : Bool) (c : PlainSpanContext) → All (IsAmong context_names) (fields_if is_valid c)
span_among true c =
    All-cons (IsAmong context_names) (traceparent_field, traceparent_of c) ((tracestate_field, tracestate_text c.trace_state) ∷ []) refl
    (All-cons (IsAmong context_names) (tracestate_field, tracestate_text c.trace_state) [] refl (All-nil (IsAmong context_names)))
span_among false c = All-nil (IsAmong context_names)

baggage_among : (header : List ℕ) → All (IsAmong context_names) (baggage_fields header)
baggage_among [] = All-nil (IsAmong context_names)
baggage_among (b ∷ header) =
    All-cons (IsAmong context_names) (baggage_field, b ∷ header) [] refl (All-nil (IsAmong context_names))

-- whether neither id is zero
abbrev pub has_ids : PlainSpanContext → Bool
has_ids c = nat_lt 0 c.trace_id && nat_lt 0 c.span_id

context_among : (cx : PlainContext) → All (IsAmong context_names) (context_fields cx)
unfolding context_fields
context_among cx =
    All-append (IsAmong context_names) (span_fields (current_span_context cx)) (baggage_fields (strict_header_of cx.baggage))
    (span_among (has_ids (current_span_context cx)) (current_span_context cx)) (baggage_among (strict_header_of cx.baggage))

keeps_others : (fields : List TextField) (old new : Headers) → All (IsAmong context_names) fields → SetsFields old fields new
    → other_fields new ≡ other_fields old
unfolding other_fields
keeps_others fields old new among sets =
    ap (λ (h : Headers). filter (is_other context_names) h) sets.sets ∙ fields_keep context_names old fields among

-- what holds of all holds of those in front
front_of : (P : TextField → Type 0) (front back : List TextField) → All P (front ++ back) → All P front
front_of P [] back all = All-nil P
front_of P (x ∷ front) back all =
    All-cons P x front (All-head P x (front ++ back) all) (front_of P front back (All-tail P x (front ++ back) all))

pub all_keep_others : (cx : PlainContext) (old new : Headers) → SetsFields old (context_fields cx) new
    → other_fields new ≡ other_fields old
all_keep_others cx old new sets = keeps_others (context_fields cx) old new (context_among cx) sets

pub some_keep_others : (cx : PlainContext) (old new : Headers) → SetsUpTo old (context_fields cx) new
    → other_fields new ≡ other_fields old
some_keep_others cx old new up =
    let all = subst (All (IsAmong context_names)) up.are (context_among cx) in
    keeps_others up.front old new (front_of (IsAmong context_names) up.front (up.refused ∷ up.left) all) up.sets

-- ---- the texts of a context

pub are_valid : (c : PlainSpanContext) → has_ids c ≡ true → IsValid c
are_valid c is = let both = and_parts (nat_lt 0 c.trace_id) (nat_lt 0 c.span_id) is in (ltb-true 0 c.trace_id both.0, ltb-true 0 c.span_id both.1)

pub are_not_valid : (c : PlainSpanContext) → has_ids c ≡ false → ¬ (IsValid c)
are_not_valid c is valid = absurd (grind (arith, nat_tests, valid.0, valid.1))

-- the baggage was written
writes_baggage : (cx : PlainContext) (old new : Headers) (header : List ℕ) → strict_header_of cx.baggage ≡ header
    → SetsFields old (baggage_fields header) new
    → InjectsStrictBaggage cx (header_texts old) (Ok tt) (header_texts new)
writes_baggage cx old new [] is sets = record {
  set = λ some. absurd (some is);
  nothing = λ _. (refl, λ name. ap (λ (h : Headers). header_texts h name) sets.sets);
  err = tt;
}
writes_baggage cx old new (b ∷ header) is sets =
    let first = first_set old (baggage_field, b ∷ header) [] new sets in
    record {
      set = λ _. rw (is, first.others.sets) first.text;
      nothing = λ none. absurd (let no : b ∷ header ≡ [] = sym is ∙ none in cc);
      err = tt;
    }

-- it was not, and nothing changed
refuses_baggage : (cx : PlainContext) (old new : Headers) → strict_header_of cx.baggage ≢ [] → new ≡ old
    → InjectsStrictBaggage cx (header_texts old) (Err alloc_error) (header_texts new)
refuses_baggage cx old new some same = record {
  set = λ _. tt;
  nothing = λ none. absurd (some none);
  err = λ name. ap (λ (h : Headers). header_texts h name) same;
}

-- both headers of a valid span context were set
record SetsSpan (old : Headers) (c : PlainSpanContext) (fields : List TextField) (new : Headers) : Type 0 where
  pub between : Headers
  pub both : SetsHeaders (header_texts old) (header_texts between) c
  pub others : SetsFields between fields new

sets_span : (old : Headers) (c : PlainSpanContext) (fields : List TextField) (new : Headers)
    → SetsFields old (fields_if true c ++ fields) new → SetsSpan old c fields new
sets_span old c fields new sets =
    let parent : TextField = (traceparent_field, traceparent_of c) in
    let state : TextField = (tracestate_field, tracestate_text c.trace_state) in
    let first = first_set old parent (state ∷ fields) new sets in
    let second = first_set (set_field old parent) state fields new first.others in
    record {
      between = set_field (set_field old parent) state;
      both =
          both_set (header_texts old) (header_texts (set_field old parent)) (header_texts (set_field (set_field old parent) state))
          c first.text second.text;
      others = second.others;
    }

-- a valid span context, and one of which there is nothing to write
writes_span : (cx : PlainContext) (old new : Texts) → IsValid (current_span_context cx)
    → SetsHeaders old new (current_span_context cx) → InjectsTraceContext cx old (Ok tt) new
writes_span cx old new valid sets = record { set = λ _. sets; nothing = λ not. absurd (not valid); err = tt }

writes_no_span : (cx : PlainContext) (old : Texts) → ¬ (IsValid (current_span_context cx)) → InjectsTraceContext cx old (Ok tt) old
writes_no_span cx old not_valid = record {
  set = λ valid. absurd (not_valid valid);
  nothing = λ _. (refl, λ _. refl);
  err = tt;
}

-- all fields were set
pub writes_context : (cx : PlainContext) (old new : Headers) → SetsFields old (context_fields cx) new
    → InjectsContext cx old (Ok tt) new
unfolding context_fields
writes_context cx old new sets = by (has_ids (current_span_context cx)) refl sets
  where
    by : (is_valid : Bool) → has_ids (current_span_context cx) ≡ is_valid
        → SetsFields old (fields_if is_valid (current_span_context cx) ++ baggage_fields (strict_header_of cx.baggage)) new
        → InjectsContext cx old (Ok tt) new
    by true is sets =
        let span = sets_span old (current_span_context cx) (baggage_fields (strict_header_of cx.baggage)) new sets in
        inl (
          header_texts span.between,
          writes_span cx (header_texts old) (header_texts span.between) (are_valid (current_span_context cx) is) span.both,
          writes_baggage cx span.between new (strict_header_of cx.baggage) refl span.others,
        )
    by false is sets =
        inl (
          header_texts old,
          writes_no_span cx (header_texts old) (are_not_valid (current_span_context cx) is),
          writes_baggage cx old new (strict_header_of cx.baggage) refl sets,
        )

-- ---- up to a field that was not set

no_end : (front : List TextField) (x : TextField) (left : List TextField) → [] ≡ front ++ x ∷ left → ⊥
no_end [] x left is = cc
no_end (y ∷ front) x left is = cc

-- where the field of the baggage is left, it is the last one
record IsLast (header : List ℕ) (front : List TextField) : Type 0 where
  pub none : front ≡ []
  pub some : header ≢ []

is_last : (header : List ℕ) (front : List TextField) (x : TextField) (left : List TextField)
    → baggage_fields header ≡ front ++ x ∷ left → IsLast header front
is_last [] front x left is = absurd (no_end front x left is)
is_last (b ∷ header) [] x left is = record { none = refl; some = λ empty. cc }
is_last (b ∷ header) (y ∷ front) x left is =
    absurd (no_end front x left (let same : [] ≡ front ++ x ∷ left = cc in same))

-- a span context was not written, or its first header alone
refuses_span : (cx : PlainContext) (old new : Headers) → IsValid (current_span_context cx) → new ≡ old
    → InjectsTraceContext cx (header_texts old) (Err alloc_error) (header_texts new)
refuses_span cx old new valid same = record {
  set = λ _. tt;
  nothing = λ not. absurd (not valid);
  err = inl (λ name. ap (λ (h : Headers). header_texts h name) same);
}

refuses_state : (cx : PlainContext) (old new : Headers) (field : TextField) → IsValid (current_span_context cx)
    → (traceparent_field, traceparent_of (current_span_context cx)) ≡ field → SetsFields old (field ∷ []) new
    → InjectsTraceContext cx (header_texts old) (Err alloc_error) (header_texts new)
refuses_state cx old new field valid is sets =
    let first = first_set old field [] new sets in
    record {
      set = λ _. tt;
      nothing = λ not. absurd (not valid);
      err = inr (
          subst (λ (f : TextField). SetsText (header_texts old) (header_texts new) f.0 f.1) (sym is) (rw first.others.sets first.text)
          );
    }

-- up to a field of a valid span context, or of the baggage after it
refuses_after : (cx : PlainContext) (old new : Headers) (front : List TextField) (refused : TextField) (left : List TextField)
    → IsValid (current_span_context cx)
    → fields_if true (current_span_context cx) ++ baggage_fields (strict_header_of cx.baggage) ≡ front ++ refused ∷ left
    → SetsFields old front new → InjectsContext cx old (Err alloc_error) new
refuses_after cx old new [] refused left valid are sets = inr (refl, refuses_span cx old new valid sets.sets)
refuses_after cx old new (x ∷ []) refused left valid are sets = inr (refl, refuses_state cx old new x valid (cc) sets)
refuses_after cx old new (x ∷ y ∷ more) refused left valid are sets =
    let c = current_span_context cx in
    let rest : baggage_fields (strict_header_of cx.baggage) ≡ more ++ refused ∷ left = cc in
    let last = is_last (strict_header_of cx.baggage) more refused left rest in
    let parent : x ≡ (traceparent_field, traceparent_of c) = cc in
    let state : y ≡ (tracestate_field, tracestate_text c.trace_state) = cc in
    let sets_both : SetsFields old (fields_if true c ++ []) new = rw (parent, state, last.none) at sets in
    let span = sets_span old c [] new sets_both in
    inl (
      header_texts span.between,
      writes_span cx (header_texts old) (header_texts span.between) valid span.both,
      refuses_baggage cx span.between new last.some span.others.sets,
    )

-- a beginning of the fields was set
pub refuses_context : (cx : PlainContext) (old new : Headers) → SetsUpTo old (context_fields cx) new
    → InjectsContext cx old (Err alloc_error) new
unfolding context_fields
refuses_context cx old new up = by (has_ids (current_span_context cx)) refl up.are
  where
    by : (is_valid : Bool) → has_ids (current_span_context cx) ≡ is_valid
        → fields_if is_valid (current_span_context cx) ++ baggage_fields (strict_header_of cx.baggage)
        ≡ up.front ++ up.refused ∷ up.left
        → InjectsContext cx old (Err alloc_error) new
    by true is are =
        refuses_after cx old new up.front up.refused up.left (are_valid (current_span_context cx) is) are up.sets
    by false is are =
        let last = is_last (strict_header_of cx.baggage) up.front up.refused up.left are in
        let same : new ≡ old = up.sets.sets ∙ ap (λ (fields : List TextField). fold set_field old fields) last.none in
        inl (
          header_texts old,
          writes_no_span cx (header_texts old) (are_not_valid (current_span_context cx) is),
          refuses_baggage cx old new last.some same,
        )

-- ---- either way

-- what setting the fields of a context says of its texts, and of the fields of other names
pub record Written (cx : PlainContext) (old : Headers) (result : Result (Unit {0}) SetHeaderError) (new : Headers) : Type 0 where
  pub injects : InjectsContext cx old (carrier_answer result) new
  pub others : other_fields new ≡ other_fields old

pub written : (cx : PlainContext) (old given new set : Headers) (fields : List TextField) (result : Result (Unit {0}) SetHeaderError)
    → given ≡ old → fields ≡ context_fields cx → new ≡ set
    → OnOk result (SetsFields given fields set) → OnErr result (SetsUpTo given fields set) → Written cx old result new
written cx old given new set fields (Ok done) given_is fields_are new_is ok err =
    let sets : SetsFields old (context_fields cx) new = rw (new_is, ← given_is, ← fields_are) ok in
    record { injects = writes_context cx old new sets; others = all_keep_others cx old new sets }
written cx old given new set fields (Err reason) given_is fields_are new_is ok err =
    let up : SetsUpTo old (context_fields cx) new = rw (new_is, ← given_is, ← fields_are) err in
    record { injects = refuses_context cx old new up; others = some_keep_others cx old new up }
