-- Texts of digits between hyphens: cut in one way alone, and no white space around them.
use Rattle.std.proofs.Common.{◌≡◌, ◌≢◌, inl, inr, ℕ, ◌%◌, ◌^◌, ◌<◌, Bool, true, false, cond, ◌&&◌, ◌⊎◌, eqb, Result, Ok, Err, MatchOption, List, [], ◌∷◌, ◌++◌, length, map, get_or, All, Option, Some, None, IfSome, IsSome, codes, refl, sym, ap, subst, ◌∙◌, ⊎_elim, arith, append-nil, lit<}
use Rattle.std.specs.Char.{is_whitespace}
use Rattle.std.specs.Str.{all_scalars, chars, drop_trailing_whitespace, encode_utf8_all, skip_leading_whitespace, trim}
use Rattle.std.proofs.lemmas.Bool.{cond-false}
use Rattle.std.proofs.lemmas.Str.{chars-encodes, encode_ascii}
use Rattle.std.proofs.lemmas.List.Elements.{All-append, All-cons, All-head, All-tail, All-weaker}
use Rattle.std.proofs.lemmas.Bool.Decides.{nat_tests}
use lib.Utf8.{low_scalar}
use Rattle.opentelemetry.specs.PlainContexts.{current_span_context}
use Rattle.opentelemetry.specs.Hex.{hex_text, IsHexDigit, IsHexText}
use Rattle.opentelemetry.specs.Plain.{PlainSpanContext}
use Rattle.opentelemetry.proofs.HexRead.{hex_text_injective, hex_text_IsHexText}
use Rattle.otel_propagation.specs.Traceparent.{hyphen, traceparent_text, traceparent_of, IsTraceparent, IsValid, MayFollow, remote_copy}
use Rattle.otel_propagation.specs.Traceparent.{header_text, traceparent_field, tracestate_field, CarriesSpan, IsSpanContext, SaysState, SetsHeaders, ExtractsTraceContext, InjectsTraceContext}
use Rattle.opentelemetry.specs.Carrier.{IsOtherName, SameTexts, SetsText, Texts}
use Rattle.opentelemetry.specs.Plain.{PlainContext}
use Rattle.std.specs.List.{AllZip, position_or_len}
use Rattle.opentelemetry.specs.declared.trace.trace_state.TraceStateError.{TraceStateError}
use Rattle.opentelemetry.specs.declared.trace.trace_state.TraceStateError.TheVariants as faults
use Rattle.opentelemetry.specs.Tracestate.{IsTracestate, SpellsPair, first_fault, first_of_two, is_equals, is_key, is_value, member_fault, members, pair_of, tracestate_text}
use Rattle.opentelemetry.proofs.Tracestates.{spells_members, spells_only}
use Rattle.opentelemetry.proofs.WellFormed.{header_reads_back}
use Rattle.otel_propagation.proofs.TrimLemmas.{trim_is}

-- ---- fields

-- no digit is a hyphen
pub no_hyphen : (digits number i : ℕ) → i < length (hex_text digits number) → get_or (hex_text digits number) i 0 ≢ hyphen
no_hyphen digits number i inside is =
    ⊎_elim (λ low. absurd (omega (arith, low.0, is))) (λ high. absurd (omega (arith, high.0, is))) ((hex_text_IsHexText digits number).1 i 0 inside)

tails : (a b : ℕ) (xs ys : List ℕ) → a ∷ xs ≡ b ∷ ys → xs ≡ ys
tails a b xs ys same = cc

-- fronts of one length are the same, and so is what stands after them
same_parts : (xs ys r s : List ℕ) → length xs ≡ length ys → xs ++ r ≡ ys ++ s → (xs ≡ ys) × (r ≡ s)
same_parts [] [] r s long same = (refl, same)
same_parts [] (b ∷ ys) r s long same = absurd (omega arith)
same_parts (a ∷ xs) [] r s long same = absurd (omega arith)
same_parts (a ∷ xs) (b ∷ ys) r s long same =
    let rest = same_parts xs ys r s (omega arith) (tails a b (xs ++ r) (ys ++ s) same) in
    let heads : a ≡ b = cc in
    (λ i. heads i ∷ rest.0 i, rest.1)

-- a number in front of a text is read in one way
pub field_once : (digits m n : ℕ) (r s : List ℕ) → m < 16 ^ digits → n < 16 ^ digits → hex_text digits m ++ r ≡ hex_text digits n ++ s → (m ≡ n) × (r ≡ s)
field_once digits m n r s small smaller same =
    let parts = same_parts (hex_text digits m) (hex_text digits n) r s ((hex_text_IsHexText digits m).0 ∙ sym (hex_text_IsHexText digits n).0) same in
    (hex_text_injective digits m n small smaller parts.0, parts.1)

-- and so is what stands after its hyphen
pub field_once_before_hyphen : (digits m n : ℕ) (r s : List ℕ) → m < 16 ^ digits → n < 16 ^ digits → hex_text digits m ++ hyphen ∷ r ≡ hex_text digits n ++ hyphen ∷ s → (m ≡ n) × (r ≡ s)
field_once_before_hyphen digits m n r s small smaller same =
    let parts = field_once digits m n (hyphen ∷ r) (hyphen ∷ s) small smaller same in
    (parts.0, tails hyphen hyphen r s parts.1)

-- a text that spells a number, as read
pub read_number : (read : Option ℕ) (digits number : ℕ) (text : List ℕ) → IfSome read (λ n. (n < 16 ^ digits) × (text ≡ hex_text digits n))
    → (IsHexText digits text → IsSome read) → number < 16 ^ digits → text ≡ hex_text digits number → read ≡ Some number
read_number None digits number text value only small is = let no : IsSome {T = ℕ} None = only (subst (IsHexText digits) (sym is) (hex_text_IsHexText digits number)) in cc
read_number (Some n) digits number text value only small is = ap Some (hex_text_injective digits n number value.0 small (sym value.1 ∙ is))

-- after a hyphen version 0 has nothing
pub too_much : (version : ℕ) (rest more : List ℕ) → MayFollow version rest → hyphen ∷ more ≡ rest → version ≡ 0 → more ≡ []
too_much version rest more (inl none) is zero = let no : hyphen ∷ more ≡ [] = is ∙ none in absurd (cc)
too_much version rest more (inr (after, hyphened, only)) is zero = tails hyphen hyphen more after (is ∙ hyphened) ∙ only zero

-- a text that says two span contexts says one
pub read_once : (text : List ℕ) (a b : PlainSpanContext) → IsTraceparent text a → IsTraceparent text b → a ≡ b
read_once text a b this that =
    let version = field_once_before_hyphen 2 this.version that.version _ _ (omega (arith, this.is_version)) (omega (arith, that.is_version)) (sym this.spelled ∙ that.spelled) in
    let trace_id = field_once_before_hyphen 32 a.trace_id b.trace_id _ _ this.is_trace_id.1 that.is_trace_id.1 version.1 in
    let span_id = field_once_before_hyphen 16 a.span_id b.span_id _ _ this.is_span_id.1 that.is_span_id.1 trace_id.1 in
    let flags = field_once 2 this.flags that.flags this.rest that.rest this.are_flags that.are_flags span_id.1 in
    let sampled = this.sampled ∙ ap (λ (n : ℕ). n % 2) flags.0 ∙ sym that.sampled in
    let remote = this.remote ∙ sym that.remote in
    let state = this.stateless ∙ sym that.stateless in
    λ i. record {
      trace_id = trace_id.0 i;
      span_id = span_id.0 i;
      trace_flags = sampled i;
      is_remote = remote i;
      trace_state = state i;
    }

-- ---- white space

-- a byte that shows
abbrev pub IsVisible : ℕ → Type 0
IsVisible b = (32 < b) × (b < 127)

digit_shows : (b : ℕ) → IsHexDigit b → IsVisible b
digit_shows b is = ⊎_elim (λ low. (omega (arith, low.0), omega (arith, low.1))) (λ high. (omega (arith, high.0), omega (arith, high.1))) is

pub hex_shows : (digits number : ℕ) → All IsVisible (hex_text digits number)
hex_shows digits number = All-weaker IsHexDigit IsVisible digit_shows (hex_text digits number) (hex_text_IsHexText digits number).1

no_white : (b : ℕ) → IsVisible b → is_whitespace b ≡ false
no_white b shows = grind (arith, nat_tests)

encodes_shown : (bs : List ℕ) → All IsVisible bs → encode_utf8_all bs ≡ bs
encodes_shown [] shown = refl
encodes_shown (b ∷ bs) shown =
    let head = All-head IsVisible b bs shown in
    ap (λ t. t ++ encode_utf8_all bs) (encode_ascii b (omega (arith, head.1))) ∙ ap (λ l. b ∷ l) (encodes_shown bs (All-tail IsVisible b bs shown))

scalars_shown : (bs : List ℕ) → All IsVisible bs → all_scalars bs ≡ true
scalars_shown [] shown = refl
scalars_shown (b ∷ bs) shown =
    let head = All-head IsVisible b bs shown in
    (λ i. low_scalar b (omega (arith, head.1)) i && scalars_shown bs (All-tail IsVisible b bs shown) i)

skips_none : (bs : List ℕ) → All IsVisible bs → skip_leading_whitespace bs ≡ bs
skips_none [] shown = refl
skips_none (b ∷ bs) shown = cond-false _ _ _ (no_white b (All-head IsVisible b bs shown))

drops_none : (bs : List ℕ) → All IsVisible bs → drop_trailing_whitespace bs ≡ bs
drops_none [] shown = refl
drops_none (b ∷ bs) shown =
    cond-false _ _ _ (ap (λ white. white && eqb (length (drop_trailing_whitespace bs)) 0) (no_white b (All-head IsVisible b bs shown)))
    ∙ ap (λ l. b ∷ l) (drops_none bs (All-tail IsVisible b bs shown))

-- a text of bytes that show has no white space around it
pub trim_shown : (bs : List ℕ) → All IsVisible bs → trim bs ≡ bs
trim_shown bs shown =
    let encodes = encodes_shown bs shown in
    let scalars = scalars_shown bs shown in
    let chars_are : chars bs ≡ bs = ap chars (sym encodes) ∙ chars-encodes bs scalars in
    trim_is bs (bs, (scalars, encodes))
    ∙ ap (λ l. encode_utf8_all (drop_trailing_whitespace (skip_leading_whitespace l))) chars_are
    ∙ ap (λ l. encode_utf8_all (drop_trailing_whitespace l)) (skips_none bs shown)
    ∙ ap encode_utf8_all (drops_none bs shown) ∙ encodes

-- ---- what is extracted

-- where a header says a span context, it is extracted
pub extracted : (cx : PlainContext) (texts : Texts) (text : List ℕ) (parent made : PlainSpanContext) (state : List (List ℕ × List ℕ))
    → text ≡ header_text (texts traceparent_field) → IsTraceparent text parent → SaysState (texts tracestate_field) state
    → made ≡ record parent { trace_state = state } → ExtractsTraceContext cx texts (record cx { span_context = Some made })
extracted cx texts text parent made state is said says made_is = record {
  read = λ c other.
      let same = read_once text parent c said (subst (λ t. IsTraceparent t c) (sym is) other) in (
        state,
        says,
        ap (λ (m : PlainSpanContext). record cx { span_context = Some m }) made_is
            ∙ (λ i. record cx { span_context = Some (record (same i) { trace_state = state }) }),
      );
  as_it_was = λ none. absurd (none parent (subst (λ t. IsTraceparent t parent) is said));
}

-- where it says none, nothing is
pub not_extracted : (cx : PlainContext) (texts : Texts) (text : List ℕ) → text ≡ header_text (texts traceparent_field)
    → ((c : PlainSpanContext) → ¬ (IsTraceparent text c)) → ExtractsTraceContext cx texts cx
not_extracted cx texts text is none = record {
  read = λ c other. absurd (none c (subst (λ t. IsTraceparent t c) (sym is) other));
  as_it_was = λ _. refl;
}

-- ---- what is injected

names_differ : IsOtherName traceparent_field tracestate_field
names_differ same = absurd (cc)

-- a header that is set after the other one leaves it there
pub both_set : (old between new : Texts) (c : PlainSpanContext) → SetsText old between traceparent_field (traceparent_of c)
    → SetsText between new tracestate_field (tracestate_text c.trace_state) → SetsHeaders old new c
both_set old between new c first second = record {
  parent = second.others traceparent_field names_differ ∙ first.set;
  state = second.set;
  others = λ other not_parent not_state. second.others other not_state ∙ first.others other not_parent;
}

-- a header stays set where the other one was refused
pub still_set : (old between new : Texts) (name text : List ℕ) → SetsText old between name text → SameTexts between new → SetsText old new name text
still_set old between new name text first same = record {
  set = same name ∙ first.set;
  others = λ other apart. same other ∙ first.others other apart;
}

field_shows : (digits number : ℕ) (tail : List ℕ) → All IsVisible tail → All IsVisible (hex_text digits number ++ hyphen ∷ tail)
field_shows digits number tail shown =
    All-append IsVisible (hex_text digits number) (hyphen ∷ tail) (hex_shows digits number) (All-cons IsVisible hyphen tail (lit< tt, lit< tt) shown)

version_shown : (tail : List ℕ) → codes "00-" ++ tail ≡ hex_text 2 0 ++ hyphen ∷ tail
unfolding hex_text
version_shown tail = refl

-- the header of a valid span context says it, as another process has it and without its trace state
pub header_says : (c : PlainSpanContext) → IsValid c → c.trace_id < 2 ^ 128 → c.span_id < 2 ^ 64
    → IsTraceparent (traceparent_of c) (record (remote_copy c) { trace_state = [] })
header_says c valid trace_id span_id =
    let flags : List ℕ = hex_text 2 (c.trace_flags % 2) in
    let is : traceparent_of c ≡ traceparent_text 0 c.trace_id c.span_id flags = version_shown (hex_text 32 c.trace_id ++ hyphen ∷ (hex_text 16 c.span_id ++ hyphen ∷ flags)) in
    let shown = field_shows 2 0 _ (field_shows 32 c.trace_id _ (field_shows 16 c.span_id flags (hex_shows 2 (c.trace_flags % 2)))) in
    record {
      version = 0;
      flags = c.trace_flags % 2;
      rest = [];
      spelled = ap trim is ∙ trim_shown (traceparent_text 0 c.trace_id c.span_id flags) shown ∙ ap (traceparent_text 0 c.trace_id c.span_id) (sym (append-nil flags));
      is_version = lit< tt;
      is_trace_id = (valid.0, omega (arith, trace_id));
      is_span_id = (valid.1, omega (arith, span_id));
      are_flags = omega arith;
      follows = inl refl;
      sampled = omega arith;
      remote = refl;
      stateless = refl;
    }

-- a header of a text that spells these pairs says them alone
state_said : (text : List ℕ) (pairs state : List (List ℕ × List ℕ)) → IsTracestate text pairs → SaysState (Some text) state → state ≡ pairs
state_said text pairs state is (inl said) = (spells_only (members text) state said).1 ∙ sym (spells_only (members text) pairs is).1
state_said text pairs state is (inr (none, empty)) = absurd (none pairs is)

-- headers that are set carry the span context
pub headers_carry : (c : PlainSpanContext) (texts : Texts) → IsSpanContext c → IsValid c → texts traceparent_field ≡ Some (traceparent_of c)
    → texts tracestate_field ≡ Some (tracestate_text c.trace_state) → CarriesSpan texts c
headers_carry c texts is valid parent state cx found extracts =
    let said = header_says c valid is.trace_id is.span_id in
    let bare : PlainSpanContext = record (remote_copy c) { trace_state = [] } in
    let (pairs, says, found_is) = extracts.read bare (subst (λ t. IsTraceparent (header_text t) bare) (sym parent) said) in
    let pairs_are = state_said (tracestate_text c.trace_state) c.trace_state pairs (header_reads_back c.trace_state is.trace_state) (subst (λ t. SaysState t pairs) state says) in
    found_is ∙ ap (λ (p : List (List ℕ × List ℕ)). record cx { span_context = Some (record bare { trace_state = p }) }) pairs_are

-- what was injected carries the span context
pub injected_carries : (cx : PlainContext) (old new : Texts) → IsSpanContext (current_span_context cx) → IsValid (current_span_context cx)
    → InjectsTraceContext cx old (Ok tt) new → CarriesSpan new (current_span_context cx)
injected_carries cx old new is valid injects = let sets = injects.set valid in headers_carry (current_span_context cx) new is valid sets.parent sets.state

-- ---- the empty trace state

-- a member's fault is not out of memory
member_fault_said : (uncut key value : Bool) → cond uncut (Some faults.List) (cond key (cond value None (Some faults.Value)) (Some faults.Key)) ≡ Some faults.Memory → ⊥
member_fault_said true key value is = absurd cc
member_fault_said false true true is = absurd cc
member_fault_said false true false is = absurd cc
member_fault_said false false value is = absurd cc

first_said : (fault others : Option TraceStateError) → (fault ≡ Some faults.Memory → ⊥) → (others ≡ Some faults.Memory → ⊥) → first_of_two fault others ≡ Some faults.Memory → ⊥
first_said None others one rest is = rest is
first_said (Some fault) others one rest is = one is

fault_said : (ms : List (List ℕ)) → first_fault ms ≡ Some faults.Memory → ⊥
fault_said [] is = absurd cc
fault_said (m ∷ ms) is =
    first_said (member_fault m) (first_fault ms)
    (member_fault_said (eqb (position_or_len is_equals m) (length m)) (is_key (pair_of m).0) (is_value (pair_of m).1)) (fault_said ms) is

-- a text that says the empty trace state has no members, or a fault that is not out of memory
pub says_none : (text : List ℕ) → SaysState (Some text) [] → (members text ≡ []) ⊎ ((fault : TraceStateError) × (first_fault (members text) ≡ Some fault) × (fault ≢ faults.Memory))
says_none text (inl spelled) = inl (no_members (members text) spelled)
  where
    no_members : (ms : List (List ℕ)) → AllZip SpellsPair ms [] → ms ≡ []
    no_members [] spelled = refl
    no_members (m ∷ ms) spelled = absurd spelled
says_none text (inr unspelled) = inr (by (first_fault (members text)) refl)
  where
    by : (fault : Option TraceStateError) → first_fault (members text) ≡ fault → (fault : TraceStateError) × (first_fault (members text) ≡ Some fault) × (fault ≢ faults.Memory)
    by None is = absurd (unspelled.0 (map pair_of (members text)) (spells_members (members text) is))
    by (Some fault) is = (fault, is, λ memory. fault_said (members text) (is ∙ ap Some memory))

-- the fault that is found is the one that is answered
pub found_fault : (T N : Type 0) (found : Option TraceStateError) (fault answered : TraceStateError) → found ≡ Some fault → MatchOption found N (λ said. ◌≡◌ {A = Result T TraceStateError} (Err answered) (Err said)) → fault ≡ answered
found_fault T N found fault answered is clause =
    let same : ◌≡◌ {A = Result T TraceStateError} (Err answered) (Err fault) = subst (λ f. MatchOption f N (λ said. ◌≡◌ {A = Result T TraceStateError} (Err answered) (Err said))) is clause in cc
