-- What the laws of headers stand on.
use Rattle.std.proofs.Common.{◌≡◌, ℕ, List, [], ◌∷◌, ◌++◌, None, Ok, Err, Result, IfOk, sym, ap, ◌∙◌}
use Rattle.std.proofs.lemmas.List.Elements.{All-nil}
use Rattle.http_header.specs.FieldValue.{FieldValue}
use Rattle.http_header.specs.HeaderMap.{get_all}
use Rattle.opentelemetry.specs.Hex.{hex_text}
use Rattle.opentelemetry.specs.Carrier.{Texts}
use Rattle.opentelemetry.specs.Plain.{PlainContext, PlainSpanContext}
use Rattle.opentelemetry.specs.PlainContexts.{root_cx}
use Rattle.otel_propagation.specs.Traceparent.{ExtractsTraceContext, IsTraceparent, hyphen, header_text, traceparent_field}
use Rattle.otel_propagation.specs.StrictBaggage.{ExtractsStrictBaggage}
use Rattle.otel_propagation.proofs.TraceparentLemmas.{IsVisible, trim_shown}
use Rattle.otel_http.specs.Contexts.{ExtractsContext}
use Rattle.otel_http.specs.Fields.{fields_text}
use Rattle.otel_http.specs.Headers.{Headers, header_texts}

-- the empty text says no span context
empty_says_nothing : (c : PlainSpanContext) → ¬ (IsTraceparent [] c)
empty_says_nothing c says = no_text (hex_text 2 says.version) hyphen _ (sym (trim_shown [] (All-nil IsVisible)) ∙ says.spelled)
  where
    no_text : (front : List ℕ) (b : ℕ) (after : List ℕ) → [] ≡ front ++ b ∷ after → ⊥
    no_text [] b after is = cc
    no_text (x ∷ front) b after is = cc

pub two_say_nothing : (headers : Headers) (first second : FieldValue) (more : List FieldValue) (cx found : PlainContext)
    → get_all headers traceparent_field ≡ first ∷ second ∷ more
    → ExtractsTraceContext cx (header_texts headers) found → found ≡ cx
two_say_nothing headers first second more cx found are extracts =
    let none : header_texts headers traceparent_field ≡ None = ap (fields_text traceparent_field) are in
    let text : header_text (header_texts headers traceparent_field) ≡ [] = ap header_text none in
    extracts.as_it_was (λ c says. empty_says_nothing c (rw text at says))

-- the context of both headers, the first of which was read
pub both_found : {E : Type 0} (found : Result PlainContext E) (texts : Texts) (root between : PlainContext) → root ≡ root_cx
    → ExtractsTraceContext root texts between → IfOk found (ExtractsStrictBaggage between texts) → IfOk found (ExtractsContext texts)
both_found (Ok cx) texts root between is first second = (between, rw (← is) first, second)
both_found (Err error) texts root between is first second = tt
