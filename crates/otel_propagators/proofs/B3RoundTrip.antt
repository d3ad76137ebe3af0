-- What is injected is extracted.
use Rattle.std.proofs.Common.{◌≡◌, ◌≢◌, inl, inr, ℕ, ◌<◌, ◌^◌, List, [], ◌∷◌, length, get_or, length-append, Option, Some, None, Ok, codes, refl, sym, ap, subst, ◌∙◌, arith}
use Rattle.opentelemetry.specs.Carrier.{IsOtherName, Texts}
use Rattle.opentelemetry.specs.Hex.{hex_text}
use Rattle.opentelemetry.specs.Plain.{PlainContext, PlainSpanContext}
use Rattle.opentelemetry.specs.PlainContexts.{current_span_context}
use Rattle.otel_propagators.specs.B3.{single_field, trace_id_field, span_id_field, sampled_field, flags_field, hyphen, joined, optional, state_of, state_mark, IsLone, IsMany, IsSingle, SaysMany}
use Rattle.opentelemetry.specs.Headers.{header_text, IsValid}
use Rattle.otel_propagators.specs.B3Headers.{headers_of, many_headers, remote_copy, single_text, state_headers, CarriesSpan, InjectsB3, LeavesRoom, SaysSpan, SetsInTurn}
use Rattle.otel_propagators.specs.declared.b3.encoding.B3Encoding.{B3Encoding}
use Rattle.otel_propagators.specs.declared.b3.encoding.B3Encoding.TheVariants.{MultipleHeader, SingleHeader, SingleAndMultiHeader}
use Rattle.otel_propagators.specs.declared.b3.sampling_state.SamplingState.{SamplingState}
use Rattle.otel_propagators.specs.declared.b3.sampling_state.SamplingState.TheVariants.{Accept, Deny, Defer, Debug}

optional_none : (mark : Option (List ℕ)) → mark ≡ optional mark None
optional_none None = refl
optional_none (Some mark) = refl

-- the text of the single header says the span context, as another process has it
pub single_says : (c : PlainSpanContext) → IsValid c → c.trace_id < 2 ^ 128 → c.span_id < 2 ^ 64 → IsSingle (single_text c) (remote_copy c)
single_says c valid trace_id span_id = record {
  trace_text = hex_text 32 c.trace_id;
  span_text = hex_text 16 c.span_id;
  rest = state_mark (state_of c.trace_flags);
  state = state_of c.trace_flags;
  spelled = refl;
  is_trace_id = (valid.0, inl (omega (arith, trace_id), refl));
  is_span_id = (valid.1, omega (arith, span_id), refl);
  says = record {
    parent = None;
    is_parent = tt;
    spelled = optional_none (state_mark (state_of c.trace_flags));
  };
  flags = refl;
  remote = refl;
  stateless = refl;
}

-- a header that is not there says no state alone
not_lone : (single : Option (List ℕ)) → single ≡ None → (state : SamplingState) → ¬ (IsLone single state)
not_lone None none state lone = lone
not_lone (Some text) none state lone = absurd cc

-- headers that give ids and the state say it too
pub many_say : (c : PlainSpanContext) (texts : Texts) → IsValid c → c.trace_id < 2 ^ 128 → c.span_id < 2 ^ 64 → texts trace_id_field ≡ Some (hex_text 32 c.trace_id)
    → texts span_id_field ≡ Some (hex_text 16 c.span_id) → texts single_field ≡ None → SaysMany (texts flags_field) (texts sampled_field) (state_of c.trace_flags) → IsMany texts (remote_copy c)
many_say c texts valid trace_id span_id trace_given span_given no_single says = record {
  trace_text = hex_text 32 c.trace_id;
  span_text = hex_text 16 c.span_id;
  state = state_of c.trace_flags;
  trace_given = trace_given;
  span_given = span_given;
  is_trace_id = (valid.0, inl (omega (arith, trace_id), refl));
  is_span_id = (valid.1, omega (arith, span_id), refl);
  says = inr (not_lone (texts single_field) no_single, says);
  flags = refl;
  remote = refl;
  stateless = refl;
}

-- ---- names

single_trace : IsOtherName single_field trace_id_field
single_trace same = let long : ◌≡◌ {A = ℕ} 2 12 = ap length same in absurd (omega arith)

single_span : IsOtherName single_field span_id_field
single_span same = let long : ◌≡◌ {A = ℕ} 2 11 = ap length same in absurd (omega arith)

single_sampled : IsOtherName single_field sampled_field
single_sampled same = let long : ◌≡◌ {A = ℕ} 2 12 = ap length same in absurd (omega arith)

single_flags : IsOtherName single_field flags_field
single_flags same = let long : ◌≡◌ {A = ℕ} 2 10 = ap length same in absurd (omega arith)

trace_span : IsOtherName trace_id_field span_id_field
trace_span same = let long : ◌≡◌ {A = ℕ} 12 11 = ap length same in absurd (omega arith)

trace_flags : IsOtherName trace_id_field flags_field
trace_flags same = let long : ◌≡◌ {A = ℕ} 12 10 = ap length same in absurd (omega arith)

trace_sampled : IsOtherName trace_id_field sampled_field
trace_sampled same = let letter : ◌≡◌ {A = ℕ} 116 115 = ap (λ (l : List ℕ). get_or l 5 0) same in absurd (omega arith)

span_sampled : IsOtherName span_id_field sampled_field
span_sampled same = let long : ◌≡◌ {A = ℕ} 11 12 = ap length same in absurd (omega arith)

span_flags : IsOtherName span_id_field flags_field
span_flags same = let long : ◌≡◌ {A = ℕ} 11 10 = ap length same in absurd (omega arith)

sampled_flags : IsOtherName sampled_field flags_field
sampled_flags same = let long : ◌≡◌ {A = ℕ} 12 10 = ap length same in absurd (omega arith)

-- names that differ, the other way about
turned : (a b : List ℕ) → IsOtherName a b → IsOtherName b a
turned a b apart same = apart (sym same)

-- ---- what stands there after an injection

-- the headers of a state leave others as they are
state_keeps : (state : SamplingState) (old new : Texts) (name : List ℕ) → SetsInTurn old (state_headers state) new → IsOtherName name sampled_field → IsOtherName name flags_field → new name ≡ old name
state_keeps Accept old new name (between, sets, same) not_sampled not_flags = same name ∙ sets.others name not_sampled
state_keeps Deny old new name (between, sets, same) not_sampled not_flags = same name ∙ sets.others name not_sampled
state_keeps Defer old new name same not_sampled not_flags = same name
state_keeps Debug old new name (between, sets, same) not_sampled not_flags = same name ∙ sets.others name not_flags

none_or_some : (given : Option (List ℕ)) (text : List ℕ) → given ≡ None → given ≢ Some text
none_or_some given text none some = let no : None ≡ Some text = sym none ∙ some in absurd cc

-- they say the state where nothing said one before
state_said : (state : SamplingState) (old new : Texts) → SetsInTurn old (state_headers state) new → old flags_field ≡ None → old sampled_field ≡ None → SaysMany (new flags_field) (new sampled_field) state
state_said Accept old new (between, sets, same) flags sampled =
    (none_or_some (new flags_field) (codes "1") (same flags_field ∙ sets.others flags_field (turned sampled_field flags_field sampled_flags) ∙ flags), inl (same sampled_field ∙ sets.set))
state_said Deny old new (between, sets, same) flags sampled =
    (none_or_some (new flags_field) (codes "1") (same flags_field ∙ sets.others flags_field (turned sampled_field flags_field sampled_flags) ∙ flags), inl (same sampled_field ∙ sets.set))
state_said Defer old new same flags sampled = (none_or_some (new flags_field) (codes "1") (same flags_field ∙ flags), same sampled_field ∙ sampled)
state_said Debug old new (between, sets, same) flags sampled = same flags_field ∙ sets.set

-- the many headers leave the single one as it is
many_keep : (c : PlainSpanContext) (old new : Texts) → SetsInTurn old (many_headers c) new → new single_field ≡ old single_field
many_keep c old new (first, trace, (second, span, state)) =
    state_keeps (state_of c.trace_flags) second new single_field state single_sampled single_flags
    ∙ span.others single_field single_span ∙ trace.others single_field single_trace

many_said : (c : PlainSpanContext) (old new : Texts) → IsValid c → c.trace_id < 2 ^ 128 → c.span_id < 2 ^ 64 → old single_field ≡ None → old flags_field ≡ None → old sampled_field ≡ None → SetsInTurn old (many_headers c) new
    → IsMany new (remote_copy c)
many_said c old new valid trace_id span_id single flags sampled (first, trace, (second, span, state)) =
    let s : SamplingState = state_of c.trace_flags in
    many_say c new valid trace_id span_id
    (state_keeps s second new trace_id_field state trace_sampled trace_flags ∙ span.others trace_id_field trace_span ∙ trace.set)
    (state_keeps s second new span_id_field state span_sampled span_flags ∙ span.set)
    (many_keep c old new (first, trace, (second, span, state)) ∙ single)
    (state_said s second new state
    (span.others flags_field (turned span_id_field flags_field span_flags) ∙ trace.others flags_field (turned trace_id_field flags_field trace_flags) ∙ flags)
    (span.others sampled_field (turned span_id_field sampled_field span_sampled) ∙ trace.others sampled_field (turned trace_id_field sampled_field trace_sampled) ∙ sampled))

-- no text says nothing
no_single : (text : List ℕ) (c : PlainSpanContext) → text ≡ [] → ¬ (IsSingle text c)
no_single text c none is = absurd (omega (arith, ap length none, ap length is.spelled, length-append is.trace_text (hyphen ∷ joined is.span_text is.rest)))

-- the headers of each encoding say the span context, as another process has it
headers_say : (encoding : B3Encoding) (c : PlainSpanContext) (old new : Texts) → IsValid c → c.trace_id < 2 ^ 128 → c.span_id < 2 ^ 64 → LeavesRoom encoding old
    → SetsInTurn old (headers_of encoding c) new → SaysSpan new (remote_copy c)
headers_say MultipleHeader c old new valid trace_id span_id room sets =
    let none : header_text (new single_field) ≡ [] = ap header_text (many_keep c old new sets ∙ room.0) in
    inr (λ other. no_single (header_text (new single_field)) other none, many_said c old new valid trace_id span_id room.0 room.1 room.2 sets)
headers_say SingleHeader c old new valid trace_id span_id room (between, sets, same) =
    inl (subst (λ (given : Option (List ℕ)). IsSingle (header_text given) (remote_copy c)) (sym (same single_field ∙ sets.set)) (single_says c valid trace_id span_id))
headers_say SingleAndMultiHeader c old new valid trace_id span_id room (between, sets, many) =
    inl (subst (λ (given : Option (List ℕ)). IsSingle (header_text given) (remote_copy c)) (sym (many_keep c between new many ∙ sets.set)) (single_says c valid trace_id span_id))

-- what was injected carries the span context
pub injected_carries : (encoding : B3Encoding) (cx : PlainContext) (old new : Texts) → (current_span_context cx).trace_id < 2 ^ 128 → (current_span_context cx).span_id < 2 ^ 64
    → IsValid (current_span_context cx) → LeavesRoom encoding old → InjectsB3 encoding cx old (Ok tt) new → CarriesSpan new (current_span_context cx)
injected_carries encoding cx old new trace_id span_id valid room injects other found extracts =
    extracts.read (remote_copy (current_span_context cx)) (headers_say encoding (current_span_context cx) old new valid trace_id span_id room (injects.set valid))
