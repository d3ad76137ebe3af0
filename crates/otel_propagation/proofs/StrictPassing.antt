-- What a plain propagator writes of names that are tokens, without properties, a strict one passes on unchanged.
use Rattle.std.proofs.Common.{◌≡◌, ◌≢◌, ℕ, true, false, ◌&&◌, ◌||◌, eqb, map, List, [], ◌∷◌, ◌++◌, All, refl, sym, ap, ◌∙◌, ⊎_elim, arith, inl, inr, ne_eqb}
use Rattle.std.specs.List.{AllByRecursion, flat_map, join_with_byte, list_all}
use Rattle.std.specs.Str.{IsUtf8, chars, trim, trim_end, trim_start}
use Rattle.std.proofs.lemmas.Bool.{agree_below_at, cases_Bool, cases_lt, cond-true, cond-false}
use Rattle.std.proofs.lemmas.Bool.Decides.{nat_tests}
use Rattle.std.proofs.lemmas.List.{length-map}
use Rattle.std.proofs.lemmas.List.Elements.{All-head, All-tail}
use Rattle.percent_encoding.specs.Percent.{percent_decode, percent_encode, percent_encode_byte}
use Rattle.percent_encoding.proofs.PercentLemmas.{All-percent_encode_byte, round_trip, IsEscapeByte}
use Rattle.opentelemetry.specs.Baggage.{PlainBaggage, PlainBaggageEntry, entry_of, HasDistinctNames, IsFreeName}
use Rattle.opentelemetry.specs.Members.{HasNo, comma}
use Rattle.opentelemetry.specs.Tracestate.{is_some_text}
use Rattle.opentelemetry.proofs.Tracestates.{both_true}
use Rattle.otel_propagation.specs.declared.propagation.baggage.write.TheConstants.{ESCAPED}
use Rattle.otel_propagation.specs.BaggageHeader.{after_semicolon, entries_of, escaped, escaped_byte, header_of, member_of, needs_escape, HasTexts, IsBaggage, IsSaidUnchanged}
use Rattle.otel_propagation.specs.StrictGrammar.{are_octets, is_octet, is_token, is_token_byte}
use Rattle.otel_propagation.specs.StrictBaggage.{spelled_header, spelled_member, strict_entries_of, strict_entry_of_member, strict_header_of, strict_pair, written_entries}
use Rattle.otel_propagation.specs.StrictLaws.{backslash, HasPlainToken}
use Rattle.otel_propagation.proofs.BaggageRoundTrip.{header_back}
use Rattle.otel_propagation.proofs.BaggageTextLemmas.{escaped_is}
use Rattle.otel_propagation.proofs.StrictBytes.{all_append, key_bytes}
use Rattle.otel_propagation.proofs.StrictReads.{header_reads}
use Rattle.otel_propagation.proofs.StrictHeaders.{escape_octets, header_stays, members_spelled, IsTightEntry}
use Rattle.otel_propagation.proofs.TextPieces.{text_bytes}

-- an escape is of token bytes
escape_token : (b : ℕ) → IsEscapeByte b → is_token_byte b ≡ true
unfolding is_token_byte
escape_token b (inl is) = ap is_token_byte is
escape_token b (inr (inl digit)) = grind (arith, nat_tests)
escape_token b (inr (inr letter)) = grind (arith, nat_tests)

escape_tokens : (bytes : List ℕ) → All IsEscapeByte bytes → list_all is_token_byte bytes ≡ true
escape_tokens [] all = refl
escape_tokens (b ∷ bs) all = λ i. escape_token b (All-head IsEscapeByte b bs all) i && escape_tokens bs (All-tail IsEscapeByte b bs all) i

token_escaped : (bytes : List ℕ) → list_all is_token_byte bytes ≡ true → list_all is_token_byte (flat_map escaped_byte bytes) ≡ true
token_escaped [] all = refl
token_escaped (b ∷ bs) all =
    let parts = both_true (is_token_byte b) (list_all is_token_byte bs) all in
    all_append is_token_byte (escaped_byte b) (flat_map escaped_byte bs)
    (⊎_elim
    (λ here. ap (list_all is_token_byte) (cond-true _ _ _ here) ∙ escape_tokens (percent_encode_byte b) (All-percent_encode_byte b))
    (λ here. ap (list_all is_token_byte) (cond-false _ _ _ here) ∙ (λ i. parts.0 i && true))
    (cases_Bool (needs_escape b)))
    (token_escaped bs parts.1)

some_escaped : (b : ℕ) (rest : List ℕ) → is_some_text (escaped_byte b ++ rest) ≡ true
unfolding percent_encode_byte
some_escaped b rest =
    ⊎_elim
    (λ here. ap (λ t. is_some_text (t ++ rest)) (cond-true _ _ _ here))
    (λ here. ap (λ t. is_some_text (t ++ rest)) (cond-false _ _ _ here))
    (cases_Bool (needs_escape b))

key_escaped : (key : List ℕ) → is_token key ≡ true → is_token (flat_map escaped_byte key) ≡ true
key_escaped [] is = absurd (cc)
key_escaped (b ∷ bs) is = λ i. some_escaped b (flat_map escaped_byte bs) i && token_escaped (b ∷ bs) (key_bytes (b ∷ bs) is) i

-- what is not escaped is an octet, but for the backslash
kept_octet : (b : ℕ) → needs_escape b ≡ false → b ≢ backslash → is_octet b ≡ true
unfolding is_octet
kept_octet b kept other =
    ⊎_elim
    (λ low.
    let rest : (needs_escape b || (eqb b backslash || is_octet b)) ≡ is_octet b = λ i. kept i || (ne_eqb b backslash other i || is_octet b) in
    sym rest ∙ agree_below_at (λ c. needs_escape c || (eqb c backslash || is_octet c)) (λ c. true) 128 b refl low)
    (λ high. grind (arith, nat_tests)) (cases_lt b 128)

value_escaped : (bytes : List ℕ) → HasNo backslash bytes → are_octets (flat_map escaped_byte bytes) ≡ true
value_escaped [] none = refl
value_escaped (b ∷ bs) none =
    all_append is_octet (escaped_byte b) (flat_map escaped_byte bs)
    (⊎_elim
    (λ here. ap are_octets (cond-true _ _ _ here) ∙ escape_octets (percent_encode_byte b) (All-percent_encode_byte b))
    (λ here. ap are_octets (cond-false _ _ _ here) ∙ (λ i. kept_octet b here none.0 i && true))
    (cases_Bool (needs_escape b)))
    (value_escaped bs none.1)

-- an entry as a plain header has it, without properties
abbrev encoded : PlainBaggageEntry → PlainBaggageEntry
encoded e = entry_of (escaped e.key) (escaped e.value) []

encoded_tight : (e : PlainBaggageEntry) → IsSaidUnchanged e → HasPlainToken e → IsTightEntry (encoded e)
unfolding escaped
encoded_tight e unchanged plain = record {
  say = [];
  key = ap (λ t. is_token (flat_map escaped_byte t)) unchanged.key ∙ key_escaped e.key plain.key;
  value = ap (λ t. are_octets (flat_map escaped_byte t)) unchanged.value ∙ value_escaped e.value plain.value;
  properties = tt;
  metadata = refl;
}

all_tight : (es : PlainBaggage) → All IsSaidUnchanged es → All HasPlainToken es → AllByRecursion IsTightEntry (map encoded es)
all_tight [] unchanged plain = tt
all_tight (e ∷ es) unchanged plain =
    (encoded_tight e (All-head IsSaidUnchanged e es unchanged) (All-head HasPlainToken e es plain), all_tight es (All-tail IsSaidUnchanged e es unchanged) (All-tail HasPlainToken e es plain))

-- the header of such a baggage spells its entries so
member_same : (e : PlainBaggageEntry) → e.metadata ≡ [] → member_of e ≡ spelled_member (encoded e)
unfolding member_of trim_start trim_end chars
member_same e none = ap (λ m. escaped e.key ++ (61 ∷ (escaped e.value ++ after_semicolon (trim m)))) none

members_same : (es : PlainBaggage) → All HasPlainToken es → map member_of es ≡ map spelled_member (map encoded es)
members_same [] plain = refl
members_same (e ∷ es) plain = λ i. member_same e (All-head HasPlainToken e es plain).metadata i ∷ members_same es (All-tail HasPlainToken e es plain) i

header_same : (es : PlainBaggage) → All HasPlainToken es → header_of es ≡ spelled_header (map encoded es)
unfolding header_of
header_same es plain = ap (join_with_byte comma) (members_same es plain)

-- names that differ are escaped to names that differ
decoded : (text : List ℕ) → IsUtf8 text → trim text ≡ text → percent_decode (escaped text) ≡ text
decoded text utf8 tight =
    ap percent_decode (sym (escaped_is text)) ∙ ap (λ t. percent_decode (percent_encode ESCAPED t)) tight ∙ round_trip ESCAPED text refl (text_bytes text utf8)

free : (key : List ℕ) (es : PlainBaggage) → IsUtf8 key → trim key ≡ key → All HasTexts es → All IsSaidUnchanged es → IsFreeName key es → IsFreeName (escaped key) (map encoded es)
free key [] utf8 tight texts unchanged free_is = tt
free key (e ∷ es) utf8 tight texts unchanged free_is = (
  λ same. free_is.0 (sym (decoded key utf8 tight) ∙ ap percent_decode same ∙ decoded e.key (All-head HasTexts e es texts).key (All-head IsSaidUnchanged e es unchanged).key),
  free key es utf8 tight (All-tail HasTexts e es texts) (All-tail IsSaidUnchanged e es unchanged) free_is.1,
)

distinct : (es : PlainBaggage) → All HasTexts es → All IsSaidUnchanged es → HasDistinctNames es → HasDistinctNames (map encoded es)
distinct [] texts unchanged is = tt
distinct (e ∷ es) texts unchanged is = (
  free e.key es (All-head HasTexts e es texts).key (All-head IsSaidUnchanged e es unchanged).key (All-tail HasTexts e es texts) (All-tail IsSaidUnchanged e es unchanged) is.0,
  distinct es (All-tail HasTexts e es texts) (All-tail IsSaidUnchanged e es unchanged) is.1,
)

nothing_passed : strict_header_of (strict_entries_of []) ≡ []
unfolding strict_header_of strict_entries_of strict_entry_of_member strict_pair written_entries
nothing_passed = refl

none_same : header_of [] ≡ []
unfolding header_of
none_same = refl

-- such a header is passed on unchanged
pub passed_on : (es : PlainBaggage) → IsBaggage es → All IsSaidUnchanged es → All HasPlainToken es → strict_header_of (strict_entries_of (header_of es)) ≡ header_of es
passed_on [] is unchanged plain = ap (λ t. strict_header_of (strict_entries_of t)) none_same ∙ nothing_passed ∙ sym none_same
passed_on (e ∷ es) is unchanged plain =
    let all = all_tight (e ∷ es) unchanged plain in
    let same = header_same (e ∷ es) plain in
    let count = length-map (e ∷ es) encoded in
    let few = is.within.few in
    let read = header_reads (spelled_header (map encoded (e ∷ es))) (map encoded (e ∷ es)) (record { members = members_spelled (encoded e) (map encoded es) all; few = omega arith })
    (distinct (e ∷ es) is.texts unchanged is.distinct) (omega arith) in
    ap (λ t. strict_header_of (strict_entries_of t)) same ∙ ap strict_header_of read ∙ header_stays (map encoded (e ∷ es)) all ∙ sym same

-- so the plain one reads it back
pub passed_back : (es : PlainBaggage) → IsBaggage es → All IsSaidUnchanged es → All HasPlainToken es → entries_of (strict_header_of (strict_entries_of (header_of es))) ≡ es
passed_back es is unchanged plain = ap entries_of (passed_on es is unchanged plain) ∙ header_back es is unchanged
