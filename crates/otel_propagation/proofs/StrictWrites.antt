-- What the strict writer writes: the members of the entries whose names are tokens, in order.
use Rattle.std.proofs.Common.{◌≡◌, ℕ, ◌<◌, ◌==◌, Bool, true, false, not, cond, map, List, [], ◌∷◌, ◌++◌, length, All, refl, sym, ap, ◌∙◌, ⊎_elim, arith, append-nil, append_assoc, length-append, ne_eqb}
use Rattle.std.specs.List.{filter, filter_map, flat_map, join_with_byte}
use Rattle.std.proofs.lemmas.Bool.{agree_below_at, cases_Bool, cases_lt, cond-true, cond-false}
use Rattle.std.proofs.lemmas.Bool.Decides.{nat_tests}
use Rattle.std.proofs.lemmas.List.{map_push}
use Rattle.std.proofs.lemmas.List.Elements.{All-nil, All-cons, filter-append}
use Rattle.percent_encoding.specs.AsciiSet.{should_percent_encode}
use Rattle.percent_encoding.specs.Percent.{encode_byte, percent_encode, percent_encode_byte}
use Rattle.opentelemetry.specs.Baggage.{PlainBaggage, PlainBaggageEntry}
use Rattle.opentelemetry.specs.Members.{comma, equals_sign, pieces_at, semicolon}
use Rattle.otel_propagation.specs.declared.propagation.strict_baggage.write.TheConstants.{NO_OCTETS}
use Rattle.otel_propagation.specs.BaggageHeader.{after_semicolon}
use Rattle.otel_propagation.specs.BaggagePieces.{unless_first}
use Rattle.otel_propagation.specs.StrictGrammar.{is_octet, is_token}
use Rattle.otel_propagation.specs.StrictBaggage.{has_token_name, next_written, properties_onto, spelled_header, spelled_member, strict_header_of, strict_metadata_of, strict_property, written_entries, written_entry, written_octet, written_value}
use Rattle.otel_propagation.proofs.BaggagePieceLemmas.{join_last, none_yet}
use Rattle.otel_propagation.proofs.StrictPairs.{onto_after, properties_tight}

-- the bytes that a value has escaped are those that are no octets
pub no_octets_is : (b : ℕ) → should_percent_encode NO_OCTETS b ≡ not (is_octet b)
unfolding should_percent_encode is_octet
no_octets_is b = ⊎_elim (λ low. agree_below_at (should_percent_encode NO_OCTETS) (λ c. not (is_octet c)) 128 b refl low) (λ high. grind (arith, nat_tests)) (cases_lt b 128)

turned : (b : Bool) (x y : List ℕ) → cond (not b) x y ≡ cond b y x
turned true x y = refl
turned false x y = refl

encoded_value : (bytes : List ℕ) → flat_map (encode_byte NO_OCTETS) bytes ≡ flat_map written_octet bytes
encoded_value [] = refl
encoded_value (b ∷ bs) =
    (λ i. cond (no_octets_is b i) (percent_encode_byte b) (b ∷ []) ++ encoded_value bs i)
    ∙ ap (λ l. l ++ flat_map written_octet bs) (turned (is_octet b) (percent_encode_byte b) (b ∷ []))

-- a value is percent-encoded by the set
pub written_value_is : (value : List ℕ) → percent_encode NO_OCTETS value ≡ written_value value
unfolding percent_encode written_value
written_value_is value = encoded_value value

-- a member in four parts, one written after the other
pub member_written : (e : PlainBaggageEntry) (old name equals value new : List ℕ) → name ≡ old ++ e.key → equals ≡ name ++ equals_sign ∷ [] → value ≡ equals ++ written_value e.value
    → new ≡ value ++ properties_onto false (filter_map strict_property (pieces_at semicolon e.metadata)) → new ≡ old ++ spelled_member (written_entry e)
unfolding strict_metadata_of
member_written e old name equals value new named parted valued all =
    let properties = filter_map strict_property (pieces_at semicolon e.metadata) in
    let written = written_value e.value in
    let rest = properties_onto false properties in
    let same : ((old ++ e.key) ++ equals_sign ∷ []) ++ written ++ rest ≡ old ++ (e.key ++ equals_sign ∷ (written ++ rest)) = simp append_assoc in
    all ∙ ap (λ t. t ++ rest) (valued ∙ ap (λ t. t ++ written) (parted ∙ ap (λ t. t ++ equals_sign ∷ []) named))
    ∙ same
    ∙ ap (λ t. old ++ (e.key ++ equals_sign ∷ (written ++ t))) (onto_after properties (properties_tight (pieces_at semicolon e.metadata)))

-- no member is empty, and so no header of some
member_some : (e : PlainBaggageEntry) → 0 < length (spelled_member e)
member_some e = let all = length-append e.key (equals_sign ∷ (e.value ++ after_semicolon e.metadata)) in omega arith

pub header_some : (e : PlainBaggageEntry) (es : PlainBaggage) → 0 < length (spelled_header (e ∷ es))
header_some e [] = member_some e
header_some e (f ∷ es) =
    let own = member_some e in
    let all = length-append (spelled_member e) (comma ∷ spelled_header (f ∷ es)) in omega arith

header_begun : (es : PlainBaggage) → (length (spelled_header es) == 0) ≡ none_yet (map spelled_member es)
header_begun [] = refl
header_begun (e ∷ es) = let some = header_some e es in ne_eqb (length (spelled_header (e ∷ es))) 0 (λ none. absurd (omega arith))

-- no entry
pub header_none : strict_header_of [] ≡ []
unfolding strict_header_of written_entries
header_none = refl

-- one more entry
pub header_more : (es : PlainBaggage) (e : PlainBaggageEntry) → strict_header_of (es ++ e ∷ []) ≡ strict_header_of es ++ next_written (length (strict_header_of es) == 0) e
unfolding strict_header_of written_entries
header_more es e =
    ⊎_elim
    (λ token.
    ap (λ l. spelled_header (map written_entry l)) (filter-append has_token_name es (e ∷ []) ∙ ap (λ l. filter has_token_name es ++ l) (cond-true _ _ _ token))
    ∙ ap spelled_header (map_push written_entry (filter has_token_name es) e)
    ∙ ap (join_with_byte comma) (map_push spelled_member (written_entries es) (written_entry e))
    ∙ join_last comma (map spelled_member (written_entries es)) (spelled_member (written_entry e))
    ∙ ap (λ (b : Bool). strict_header_of es ++ (unless_first b (comma ∷ []) ++ spelled_member (written_entry e))) (sym (header_begun (written_entries es)))
    ∙ ap (λ l. strict_header_of es ++ l) (sym (cond-true _ _ _ token)))
    (λ none.
    ap (λ l. spelled_header (map written_entry l)) (filter-append has_token_name es (e ∷ []) ∙ ap (λ l. filter has_token_name es ++ l) (cond-false _ _ _ none) ∙ append-nil (filter has_token_name es))
    ∙ sym (append-nil (strict_header_of es))
    ∙ ap (λ l. strict_header_of es ++ l) (sym (cond-false _ _ _ none)))
    (cases_Bool (is_token e.key))

-- where nothing is left to write, no name is a token
pub no_token_names : (es : PlainBaggage) → strict_header_of es ≡ [] → All (λ (e : PlainBaggageEntry). is_token e.key ≡ false) es
unfolding strict_header_of written_entries
no_token_names [] none = All-nil (λ (e : PlainBaggageEntry). is_token e.key ≡ false)
no_token_names (e ∷ es) none =
    ⊎_elim
    (λ token.
    let some = header_some (written_entry e) (written_entries es) in
    let written : spelled_header (map written_entry (e ∷ filter has_token_name es)) ≡ [] = ap (λ l. spelled_header (map written_entry l)) (sym (cond-true _ _ _ token)) ∙ none in
    let empty : length (spelled_header (written_entry e ∷ written_entries es)) ≡ 0 = ap length written in absurd (omega arith))
    (λ other.
    All-cons (λ (x : PlainBaggageEntry). is_token x.key ≡ false) e es other (no_token_names es (ap (λ l. spelled_header (map written_entry l)) (sym (cond-false _ _ _ other)) ∙ none)))
    (cases_Bool (is_token e.key))
