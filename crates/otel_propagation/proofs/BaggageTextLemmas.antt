-- What a name, a value or a property says, and how it is written.
use Rattle.std.proofs.Common.{◌≡◌, ℕ, ◌+◌, ◌-◌, ◌*◌, ◌==◌, Bool, map, sum_by, append_assoc, length-append, List, [], ◌∷◌, ◌++◌, length, cond, ⊎_elim, All, ne_eqb, arith, Some, None, refl, sym, ap, ◌∙◌}
use Rattle.std.specs.Str.{IsUtf8, is_utf8, trim}
use Rattle.std.proofs.lemmas.Bool.{cond-true, cond-false, false_from_ne_true}
use Rattle.std.proofs.lemmas.Str.{IsUtf8-from_is_utf8, is_utf8-from_IsUtf8}
use Rattle.percent_encoding.specs.Percent.{percent_decode}
use Rattle.percent_encoding.specs.declared.DecodeError.{DecodeError}
use Rattle.percent_encoding.specs.declared.DecodeError.TheVariants.{Utf8, OutOfMemory}
use Rattle.std.specs.declared.str.Utf8Error.{Utf8Error}
use Rattle.std.specs.List.{filter, flat_map, join_with_byte}
use Rattle.std.proofs.lemmas.Bool.{agree_below_at, cases_lt, cases_Bool}
use Rattle.std.proofs.lemmas.Bool.Decides.{nat_tests}
use Rattle.percent_encoding.specs.AsciiSet.{should_percent_encode}
use Rattle.percent_encoding.specs.Percent.{encode_byte, percent_encode, percent_encode_byte}
use Rattle.otel_propagation.specs.declared.propagation.baggage.write.TheConstants.{ESCAPED}
use Rattle.otel_propagation.specs.BaggageHeader.{said_by, needs_escape, escaped_byte, escaped, after_semicolon, member_of, header_of, HasTexts}
use Rattle.opentelemetry.specs.Members.{comma, equals_sign}
use Rattle.otel_propagation.specs.BaggagePieces.{unless_first}
use Rattle.opentelemetry.specs.Baggage.{PlainBaggage, PlainBaggageEntry}
use Rattle.otel_propagation.proofs.BaggagePieceLemmas.{join_last, none_yet}
use Rattle.std.proofs.lemmas.List.Elements.{All-nil, All-cons, All-append}
use Rattle.std.proofs.lemmas.List.{length-map, map_push}
use Rattle.std.proofs.lemmas.List.Sums.{sum_by-cons}

-- a text that is UTF-8 after its escapes says that, trimmed
pub said : (text : List ℕ) → IsUtf8 (percent_decode text) → Some (trim (percent_decode text)) ≡ said_by text
unfolding said_by
said text is = sym (cond-true _ _ _ (is_utf8-from_IsUtf8 (percent_decode text) is))

-- another says nothing
pub says_nothing : (text : List ℕ) → ¬ (IsUtf8 (percent_decode text)) → None ≡ said_by text
unfolding said_by
says_nothing text not = sym (cond-false _ _ _ (false_from_ne_true (is_utf8 (percent_decode text)) (λ is. not (IsUtf8-from_is_utf8 (percent_decode text) is))))

-- a fault in UTF-8 is not out of memory
pub not_out_of_memory : (e : DecodeError) (fault : Utf8Error) → e ≡ Utf8 fault → e ≡ OutOfMemory → ⊥
not_out_of_memory e fault is other = let both : Utf8 fault ≡ OutOfMemory = sym is ∙ other in cc

-- the bytes that a header escapes are those of the set
pub needs_escape_is : (b : ℕ) → should_percent_encode ESCAPED b ≡ needs_escape b
unfolding should_percent_encode
needs_escape_is b = ⊎_elim (λ low. agree_below_at (should_percent_encode ESCAPED) needs_escape 128 b refl low) (λ high. grind (arith, nat_tests)) (cases_lt b 128)

encoded_bytes : (bytes : List ℕ) → flat_map (encode_byte ESCAPED) bytes ≡ flat_map escaped_byte bytes
encoded_bytes [] = refl
encoded_bytes (b ∷ bs) = λ i. cond (needs_escape_is b i) (percent_encode_byte b) (b ∷ []) ++ encoded_bytes bs i

-- a name or a value is percent-encoded by the set
pub escaped_is : (text : List ℕ) → percent_encode ESCAPED (trim text) ≡ escaped text
unfolding percent_encode escaped
escaped_is text = encoded_bytes (trim text)

-- each escape is two bytes longer than the byte that it stands for
encoded_length : (bytes : List ℕ) → length (flat_map (encode_byte ESCAPED) bytes) ≡ length bytes + length (filter (should_percent_encode ESCAPED) bytes) * 2
unfolding percent_encode_byte
encoded_length [] = refl
encoded_length (b ∷ bs) =
    let rest = encoded_length bs in ⊎_elim (λ yes. rw yes (omega arith)) (λ no. rw no (omega arith)) (cases_Bool (should_percent_encode ESCAPED b))

pub length-escaped : (text : List ℕ) → length (escaped text) ≡ length (trim text) + length (filter (should_percent_encode ESCAPED) (trim text)) * 2
unfolding percent_encode
length-escaped text = ap length (sym (escaped_is text)) ∙ encoded_length (trim text)

-- a member in four parts, one written after the other
pub member_written : (e : PlainBaggageEntry) (old name equals value new : List ℕ) → name ≡ old ++ escaped e.key → equals ≡ name ++ equals_sign ∷ [] → value ≡ equals ++ escaped e.value
    → new ≡ value ++ after_semicolon (trim e.metadata) → new ≡ old ++ member_of e
unfolding member_of
member_written e old name equals value new named parted valued all =
    let rest = after_semicolon (trim e.metadata) in
    all ∙ ap (λ t. t ++ rest) (valued ∙ ap (λ t. t ++ escaped e.value) (parted ∙ ap (λ t. t ++ equals_sign ∷ []) named)) ∙ simp append_assoc

pub length-member_of : (e : PlainBaggageEntry) → length (member_of e) ≡ length (escaped e.key) + 1 + length (escaped e.value) + length (after_semicolon (trim e.metadata))
unfolding member_of
length-member_of e =
    let value = length-append (escaped e.value) (after_semicolon (trim e.metadata)) in
    let all = length-append (escaped e.key) (equals_sign ∷ (escaped e.value ++ after_semicolon (trim e.metadata))) in omega arith

-- how long joined texts are
length-join : (c : ℕ) (ts : List (List ℕ)) → length (join_with_byte c ts) ≡ length ts - 1 + sum_by length ts
length-join c [] = refl
length-join c (t ∷ []) = omega arith
length-join c (t ∷ s ∷ ts) =
    let rest = length-join c (s ∷ ts) in
    let text = length-append t (c ∷ join_with_byte c (s ∷ ts)) in
    let sum = sum_by-cons length t (s ∷ ts) in omega arith

-- what the members of entries sum up to
abbrev pub members_bytes : PlainBaggage → ℕ
members_bytes es = sum_by (λ e. length (member_of e)) es

members_sum : (es : PlainBaggage) → sum_by length (map member_of es) ≡ members_bytes es
members_sum [] = refl
members_sum (e ∷ es) = sum_by-cons length (member_of e) (map member_of es) ∙ ap (λ n. length (member_of e) + n) (members_sum es) ∙ sym (sum_by-cons (λ (x : PlainBaggageEntry). length (member_of x)) e es)

pub length-header_of : (es : PlainBaggage) → length (header_of es) ≡ length es - 1 + members_bytes es
unfolding header_of
length-header_of es = length-join comma (map member_of es) ∙ (λ i. length-map es member_of i - 1 + members_sum es i)

-- a header is empty where no member stands
pub header_begun : (es : PlainBaggage) → (length (header_of es) == 0) ≡ none_yet (map member_of es)
unfolding header_of
header_begun [] = refl
header_begun (e ∷ es) =
    let all = length-header_of (e ∷ es) in
    let first = sum_by-cons (λ (x : PlainBaggageEntry). length (member_of x)) e es in
    let own = length-member_of e in
    ne_eqb (length (header_of (e ∷ es))) 0 (λ none. absurd (omega arith))

-- one more member stands after a comma
pub header_more : (es : PlainBaggage) (e : PlainBaggageEntry) → header_of (es ++ e ∷ []) ≡ header_of es ++ (unless_first (length (header_of es) == 0) (comma ∷ []) ++ member_of e)
unfolding header_of
header_more es e = ap (join_with_byte comma) (map_push member_of es e) ∙ join_last comma (map member_of es) (member_of e) ∙ ap (λ b. header_of es ++ (unless_first b (comma ∷ []) ++ member_of e)) (sym (header_begun es))

-- a header of some entries, which are texts
pub record IsWritten (es : PlainBaggage) (header : List ℕ) : Type 0 where
  pub header_is : header ≡ header_of es
  pub texts : All HasTexts es

pub written_none : (header : List ℕ) → header ≡ [] → IsWritten [] header
unfolding header_of
written_none header none = record { header_is = none; texts = All-nil HasTexts }

pub written_more : (es : PlainBaggage) (e : PlainBaggageEntry) (is_first : Bool) (header parted new : List ℕ) → IsWritten es header → HasTexts e → is_first ≡ (length header == 0)
    → parted ≡ header ++ unless_first is_first (comma ∷ []) → new ≡ parted ++ member_of e → IsWritten (es ++ e ∷ []) new
written_more es e is_first header parted new so_far texts first is more = record {
  header_is =
      more ∙ ap (λ t. t ++ member_of e) is
      ∙ (λ i. (so_far.header_is i ++ unless_first (begun i) (comma ∷ [])) ++ member_of e)
      ∙ append_assoc (header_of es) (unless_first (length (header_of es) == 0) (comma ∷ [])) (member_of e)
      ∙ sym (header_more es e);
  texts = All-append HasTexts es (e ∷ []) so_far.texts (All-cons HasTexts e [] texts (All-nil HasTexts));
}
  where
    begun : is_first ≡ (length (header_of es) == 0)
    begun = first ∙ ap (λ t. length t == 0) so_far.header_is
