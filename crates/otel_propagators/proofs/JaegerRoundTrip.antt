-- What is injected is extracted.
use Rattle.std.proofs.Common.{◌≡◌, ℕ, ◌<◌, ◌≤◌, ◌/◌, ◌%◌, ◌^◌, ◌==◌, if◌then◌else◌, Bool, true, false, List, ◌++◌, length, Ok, codes, refl, sym, ap, subst, arith, lit<}
use Rattle.opentelemetry.specs.Headers.{header_text, IsValid}
use Rattle.opentelemetry.specs.Hex.{hex_text}
use Rattle.opentelemetry.specs.Plain.{PlainContext, PlainSpanContext}
use Rattle.opentelemetry.specs.PlainContexts.{current_span_context}
use Rattle.opentelemetry.specs.Carrier.{Texts}
use Rattle.opentelemetry.proofs.HexRead.{hex_text_IsHexText}
use Rattle.otel_propagators.specs.UberTraceId.{flags_digit, flags_written, remote_copy, uber_trace_id_field, uber_trace_id_of, CarriesSpan, InjectsJaeger, IsNumber, IsUberTraceId, SaysField}

-- so many digits say their number
number_said : (count most number : ℕ) → 0 < count → count ≤ most → number < 16 ^ count → IsNumber most (hex_text count number) number
number_said count most number some fits small =
    let long : length (hex_text count number) ≡ count = (hex_text_IsHexText count number).0 in (
      subst (λ n. 0 < n) (sym long) some,
      subst (λ n. n ≤ most) (sym long) fits,
      subst (λ n. number < 16 ^ n) (sym long) small,
      ap (λ n. hex_text n number) (sym long),
    )

zero_text : codes "0" ≡ hex_text 1 0
unfolding hex_text
zero_text = refl

one_text : codes "1" ≡ hex_text 1 1
unfolding hex_text
one_text = refl

three_text : codes "3" ≡ hex_text 1 3
unfolding hex_text
three_text = refl

-- the digit of flags says them
digit_said : (flags : ℕ) → IsNumber 2 (flags_digit flags) (flags_written flags)
digit_said flags = by (flags % 2 == 0) (flags / 4 % 2 == 0)
  where
    by : (unsampled plain : Bool) → IsNumber 2 (if unsampled then codes "0" else if plain then codes "1" else codes "3") (if unsampled then 0 else if plain then 1 else 3)
    by true plain = (lit< tt, lit< tt, lit< tt, zero_text)
    by false true = (lit< tt, lit< tt, lit< tt, one_text)
    by false false = (lit< tt, lit< tt, lit< tt, three_text)

-- digits in front of a colon say their number
field_said : (count most number : ℕ) (rest : List ℕ) → 0 < count → count ≤ most → number < 16 ^ count → SaysField false most (hex_text count number ++ (codes ":" ++ rest)) number rest
field_said count most number rest some fits small = record {
  field = hex_text count number;
  says = number_said count most number some fits small;
  spelled = refl;
}

-- the header of a valid span context says it, as another process has it
pub header_says : (c : PlainSpanContext) → IsValid c → c.trace_id < 2 ^ 128 → c.span_id < 2 ^ 64 → IsUberTraceId (uber_trace_id_of c) (remote_copy c)
header_says c valid trace_id span_id =
    let flags : List ℕ = flags_digit c.trace_flags in (
      false,
      record {
        after_trace = hex_text 16 c.span_id ++ (codes ":0:" ++ flags);
        after_span = codes "0:" ++ flags;
        parent = 0;
        flags_text = flags;
        flags = flags_written c.trace_flags;
        trace_id = field_said 32 32 c.trace_id _ (lit< tt) (omega arith) (omega (arith, trace_id));
        span_id = field_said 16 16 c.span_id _ (lit< tt) (omega arith) (omega (arith, span_id));
        parent_id = record {
          field = codes "0";
          says = (lit< tt, lit< tt, lit< tt, zero_text);
          spelled = refl;
        };
        says_flags = digit_said c.trace_flags;
        not_zero = valid;
        trace_flags = refl;
        remote = refl;
        stateless = refl;
      },
    )

-- what was injected carries the span context
pub injected_carries : (cx : PlainContext) (old new : Texts) → (current_span_context cx).trace_id < 2 ^ 128 → (current_span_context cx).span_id < 2 ^ 64 → IsValid (current_span_context cx)
    → InjectsJaeger cx old (Ok tt) new → CarriesSpan new (current_span_context cx)
injected_carries cx old new trace_id span_id valid injects other found extracts =
    let c : PlainSpanContext = current_span_context cx in
    let text : header_text (new uber_trace_id_field) ≡ uber_trace_id_of c = ap header_text (injects.set valid).set in
    extracts.read (remote_copy c) (subst (λ (t : List ℕ). IsUberTraceId t (remote_copy c)) (sym text) (header_says c valid trace_id span_id))
