-- Texts of `uber-trace-id`: each says one span context at most.
use Rattle.std.proofs.Common.{◌≡◌, ◌≢◌, ⊎_elim, ℕ, zero, suc, ◌<◌, ◌≤◌, ◌^◌, Bool, true, false, List, [], ◌∷◌, ◌++◌, length, All, Option, Some, None, IfSome, IsSome, MatchOption, refl, sym, ap, subst, ◌∙◌, arith}
use Rattle.std.proofs.Math.Nat.{pow-le-pow_right}
use Rattle.std.proofs.lemmas.List.Elements.{All-head, All-tail}
use Rattle.opentelemetry.specs.Hex.{hex_text, IsHexDigit, IsHexText}
use Rattle.opentelemetry.specs.Plain.{PlainSpanContext}
use Rattle.opentelemetry.proofs.HexRead.{hex_text_injective, hex_text_IsHexText}
use Rattle.otel_propagators.specs.UberTraceId.{colon_text, flags_read, IsNumber, IsUberTraceId, SaysContext, SaysField}

-- ---- fields

-- no digit is a colon or a percent sign
pub not_colon : (b : ℕ) → IsHexDigit b → b ≢ 58
not_colon b is same = ⊎_elim (λ low. absurd (omega (arith, low.1, same))) (λ high. absurd (omega (arith, high.0, same))) is

pub not_percent : (b : ℕ) → IsHexDigit b → b ≢ 37
not_percent b is same = ⊎_elim (λ low. absurd (omega (arith, low.0, same))) (λ high. absurd (omega (arith, high.0, same))) is

tails : (a b : ℕ) (xs ys : List ℕ) → a ∷ xs ≡ b ∷ ys → xs ≡ ys
tails a b xs ys same = cc

heads : (a b : ℕ) (xs ys : List ℕ) → a ∷ xs ≡ b ∷ ys → a ≡ b
heads a b xs ys same = cc

-- digits, and what stands after them, which begins with none
digits_once : (a b : List ℕ) (s t : ℕ) (r q : List ℕ) → All IsHexDigit a → All IsHexDigit b → ¬ (IsHexDigit s) → ¬ (IsHexDigit t) → a ++ s ∷ r ≡ b ++ t ∷ q → (a ≡ b) × (s ≡ t) × (r ≡ q)
digits_once [] [] s t r q fa fb ns nt same = (refl, heads s t r q same, tails s t r q same)
digits_once [] (y ∷ ys) s t r q fa fb ns nt same = absurd (ns (subst IsHexDigit (sym (heads s y r (ys ++ t ∷ q) same)) (All-head IsHexDigit y ys fb)))
digits_once (x ∷ xs) [] s t r q fa fb ns nt same = absurd (nt (subst IsHexDigit (heads x t (xs ++ s ∷ r) q same) (All-head IsHexDigit x xs fa)))
digits_once (x ∷ xs) (y ∷ ys) s t r q fa fb ns nt same =
    let first = heads x y (xs ++ s ∷ r) (ys ++ t ∷ q) same in
    let rest = digits_once xs ys s t r q (All-tail IsHexDigit x xs fa) (All-tail IsHexDigit y ys fb) ns nt (tails x y (xs ++ s ∷ r) (ys ++ t ∷ q) same) in
    (λ i. first i ∷ rest.0 i, rest.1, rest.2)

colon_is_none : ¬ (IsHexDigit 58)
colon_is_none is = absurd (not_colon 58 is refl)

percent_is_none : ¬ (IsHexDigit 37)
percent_is_none is = absurd (not_percent 37 is refl)

pub number_digits : (most number : ℕ) (text : List ℕ) → IsNumber most text number → All IsHexDigit text
number_digits most number text is = subst (All IsHexDigit) (sym is.3) (hex_text_IsHexText (length text) number).1

-- a number that is not zero
pub above_zero : (n : ℕ) → (n ≡ 0 → ⊥) → 0 < n
above_zero zero not = absurd (not refl)
above_zero (suc n) not = omega arith

-- a number of so many digits
pub number_small : (most : ℕ) (text : List ℕ) (number : ℕ) → IsNumber most text number → number < 16 ^ most
number_small most text number is =
    let positive : 0 < 16 = omega arith in
    let bound : 16 ^ length text ≤ 16 ^ most = pow-le-pow_right positive is.1 in omega (arith, bound, is.2)

-- a text says one number at most
pub number_once : (most : ℕ) (text : List ℕ) (m n : ℕ) → IsNumber most text m → IsNumber most text n → m ≡ n
number_once most text m n this that = hex_text_injective (length text) m n this.2 that.2 (sym this.3 ∙ that.3)

-- a text as read
pub number_read : (most : ℕ) (text : List ℕ) (r : Option ℕ) → 0 < length text → length text ≤ most → IfSome r (λ n. (n < 16 ^ length text) × (text ≡ hex_text (length text) n))
    → (IsHexText (length text) text → IsSome r) → MatchOption r ((n : ℕ) → ¬ (IsNumber most text n)) (λ n. IsNumber most text n)
number_read most text None some fits value only = λ n is.
    let no : IsSome {T = ℕ} None = only (subst (λ (t : List ℕ). IsHexText (length text) t) (sym is.3) (hex_text_IsHexText (length text) n)) in absurd cc
number_read most text (Some n) some fits value only = (some, fits, value.0, value.1)

-- a field in front of a colon is cut off in one way
pub fields_once : (escaped : Bool) (a b r s : List ℕ) → All IsHexDigit a → All IsHexDigit b → a ++ (colon_text escaped ++ r) ≡ b ++ (colon_text escaped ++ s) → (a ≡ b) × (r ≡ s)
fields_once false a b r s fa fb same = let parts = digits_once a b 58 58 r s fa fb colon_is_none colon_is_none same in (parts.0, parts.2)
fields_once true a b r s fa fb same =
    let parts = digits_once a b 37 37 (51 ∷ 65 ∷ r) (51 ∷ 65 ∷ s) fa fb percent_is_none percent_is_none same in
    (parts.0, tails 65 65 r s (tails 51 51 (65 ∷ r) (65 ∷ s) parts.2))

-- and says one number
pub field_once : (escaped : Bool) (most : ℕ) (text : List ℕ) (m n : ℕ) (r s : List ℕ) → SaysField escaped most text m r → SaysField escaped most text n s → (m ≡ n) × (r ≡ s)
field_once escaped most text m n r s this that =
    let parts = fields_once escaped this.field that.field r s (number_digits most m this.field this.says) (number_digits most n that.field that.says) (sym this.spelled ∙ that.spelled) in
    (number_once most that.field m n (subst (λ f. IsNumber most f m) parts.0 this.says) that.says, parts.1)

-- no text is escaped and is not
escaped_once : (most m n : ℕ) (text r s : List ℕ) → SaysField false most text m r → SaysField true most text n s → ⊥
escaped_once most m n text r s this that =
    let parts = digits_once this.field that.field 58 37 r (51 ∷ 65 ∷ s) (number_digits most m this.field this.says) (number_digits most n that.field that.says) colon_is_none percent_is_none (sym this.spelled ∙ that.spelled) in
    absurd (omega (arith, parts.1))

-- ---- span contexts

-- a text that is escaped, or is not, says one span context at most
pub context_once : (escaped : Bool) (text : List ℕ) (a b : PlainSpanContext) → SaysContext escaped text a → SaysContext escaped text b → a ≡ b
context_once escaped text a b this that =
    let trace_id = field_once escaped 32 text a.trace_id b.trace_id this.after_trace that.after_trace this.trace_id that.trace_id in
    let span_id = field_once escaped 16 that.after_trace a.span_id b.span_id this.after_span that.after_span
    (subst (λ t. SaysField escaped 16 t a.span_id this.after_span) trace_id.1 this.span_id) that.span_id in
    let parent_id = field_once escaped 16 that.after_span this.parent that.parent this.flags_text that.flags_text
    (subst (λ t. SaysField escaped 16 t this.parent this.flags_text) span_id.1 this.parent_id) that.parent_id in
    let flags = number_once 2 that.flags_text this.flags that.flags (subst (λ t. IsNumber 2 t this.flags) parent_id.1 this.says_flags) that.says_flags in
    let kept = this.trace_flags ∙ ap flags_read flags ∙ sym that.trace_flags in
    let remote = this.remote ∙ sym that.remote in
    let stateless = this.stateless ∙ sym that.stateless in
    λ i. record {
      trace_id = trace_id.0 i;
      span_id = span_id.0 i;
      trace_flags = kept i;
      is_remote = remote i;
      trace_state = stateless i;
    }

-- and so does any text
pub read_once : (text : List ℕ) (a b : PlainSpanContext) → IsUberTraceId text a → IsUberTraceId text b → a ≡ b
read_once text a b (false, this) (false, that) = context_once false text a b this that
read_once text a b (true, this) (true, that) = context_once true text a b this that
read_once text a b (false, this) (true, that) = absurd (escaped_once 32 a.trace_id b.trace_id text this.after_trace that.after_trace this.trace_id that.trace_id)
read_once text a b (true, this) (false, that) = absurd (escaped_once 32 b.trace_id a.trace_id text that.after_trace this.after_trace that.trace_id this.trace_id)

-- ---- what is cut off

-- after a percent sign, as read
pub after_percent : (after rest stripped : List ℕ) → after ≡ 51 ∷ 65 ∷ rest → after ≡ 51 ∷ 65 ∷ stripped → stripped ≡ rest
after_percent after rest stripped is was = tails 65 65 stripped rest (tails 51 51 (65 ∷ stripped) (65 ∷ rest) (sym was ∙ is))

-- what is cut off, and is no number, is no field
pub not_a_field : (escaped : Bool) (most : ℕ) (text front after : List ℕ) (number : ℕ) (rest : List ℕ)
    → ((f r : List ℕ) → All IsHexDigit f → text ≡ f ++ (colon_text escaped ++ r) → (front ≡ f) × (after ≡ r)) → ((n : ℕ) → ¬ (IsNumber most front n)) → SaysField escaped most text number rest → ⊥
not_a_field escaped most text front after number rest only none is =
    none number (subst (λ f. IsNumber most f number) (sym (only is.field rest (number_digits most number is.field is.says) is.spelled).0) is.says)

-- what stands after the trace id, as cut off
pub second_field : (escaped : Bool) (text after : List ℕ) (number : ℕ) (c : PlainSpanContext) (is : SaysContext escaped text c) → SaysField escaped 32 text number after
    → (number ≡ c.trace_id) × SaysField escaped 16 after c.span_id is.after_span
second_field escaped text after number c is says =
    let same = field_once escaped 32 text number c.trace_id after is.after_trace says is.trace_id in
    (same.0, subst (λ t. SaysField escaped 16 t c.span_id is.after_span) (sym same.1) is.span_id)

-- after the span id
pub third_field : (escaped : Bool) (text after further : List ℕ) (number span : ℕ) (c : PlainSpanContext) (is : SaysContext escaped text c) → SaysField escaped 32 text number after
    → SaysField escaped 16 after span further → (span ≡ c.span_id) × SaysField escaped 16 further is.parent is.flags_text
third_field escaped text after further number span c is says also =
    let same = field_once escaped 16 after span c.span_id further is.after_span also (second_field escaped text after number c is says).1 in
    (same.0, subst (λ t. SaysField escaped 16 t is.parent is.flags_text) (sym same.1) is.parent_id)

-- and after the parent's
pub flags_field : (escaped : Bool) (text after further last : List ℕ) (number span parent : ℕ) (c : PlainSpanContext) (is : SaysContext escaped text c) → SaysField escaped 32 text number after
    → SaysField escaped 16 after span further → SaysField escaped 16 further parent last → IsNumber 2 last is.flags
flags_field escaped text after further last number span parent c is says also third =
    let same = field_once escaped 16 further parent is.parent last is.flags_text third (third_field escaped text after further number span c is says also).1 in
    subst (λ t. IsNumber 2 t is.flags) (sym same.1) is.says_flags

-- what is said neither way is not said
pub neither : (text : List ℕ) (c : PlainSpanContext) → ¬ (SaysContext false text c) → ¬ (SaysContext true text c) → IsUberTraceId text c → ⊥
neither text c plain escaped (false, says) = plain says
neither text c plain escaped (true, says) = escaped says
