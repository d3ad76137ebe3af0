-- The header of a baggage reads back as it.
use Rattle.std.proofs.Common.{◌≡◌, ◌≢◌, ℕ, true, false, eqb, List, [], ◌∷◌, ◌++◌, length, take, map, All, Some, Ok, unwrap_or, refl, sym, ap, subst, ◌∙◌, arith, append-nil, append_assoc, ne_eqb, eq-eqb, lit<}
use Rattle.std.specs.List.{cons_option, filter_map, join_with_byte}
use Rattle.std.specs.Str.{IsUtf8, trim}
use Rattle.std.proofs.lemmas.Bool.{both_ways, cond-true}
use borrow.Author.Tests.{le-leb}
use Rattle.std.proofs.lemmas.List.{length-map, take_all}
use Rattle.std.proofs.lemmas.List.Elements.{All-nil, All-cons, All-head, All-tail, All-append}
use Rattle.std.proofs.lemmas.List.Splits.{slice_split_none, slice_split_at, join_with_byte-slice_split}
use Rattle.percent_encoding.specs.Percent.{percent_decode, percent_encode, percent_sign}
use Rattle.percent_encoding.specs.AsciiSet.{should_percent_encode}
use Rattle.percent_encoding.proofs.PercentLemmas.{IsEscapeByte, All-percent_encode, percent_decode-nil, percent_decode_not_percent, round_trip}
use Rattle.opentelemetry.specs.Baggage.{PlainBaggage, PlainBaggageEntry, entry_of, HasNames}
use Rattle.opentelemetry.specs.Members.{HasNo, comma, equals_sign}
use Rattle.otel_propagation.specs.declared.propagation.baggage.write.TheConstants.{ESCAPED}
use Rattle.otel_propagation.specs.BaggageHeader.{after_semicolon, entries_of, entry_of_member, escaped, header_of, member_of, metadata_of, named_entry, needs_escape, one_a_name, paired_entry, said_by, HasTexts, IsBaggage, IsSaidUnchanged, IsCarriedUnchanged, Carries, InjectsBaggage, baggage_field, read_baggage}
use Rattle.opentelemetry.specs.Members.{pieces_at, semicolon}
use Rattle.opentelemetry.specs.Carrier.{Texts}
use Rattle.opentelemetry.specs.Plain.{PlainContext}
use Rattle.otel_propagation.proofs.BaggageNames.{one_a_name_distinct}
use Rattle.otel_propagation.proofs.BaggagePieceLemmas.{Lacks, lacks, member_says, pieces_lack}
use Rattle.otel_propagation.proofs.BaggageTextLemmas.{escaped_is, needs_escape_is, said}
use Rattle.otel_propagation.proofs.TextPieces.{pieces_are_texts, text_bytes, trim_pieces}

-- a byte that a header escapes, and that stands in no escape
record IsEscaped (c : ℕ) : Type 0 where
  escapes : needs_escape c ≡ true
  in_none : (b : ℕ) → IsEscapeByte b → eqb b c ≡ false

comma_is : IsEscaped comma
comma_is = record { escapes = refl; in_none = λ b escape. ne_eqb b comma (λ same. grind arith) }

semicolon_is : IsEscaped semicolon
semicolon_is = record { escapes = refl; in_none = λ b escape. ne_eqb b semicolon (λ same. grind arith) }

equals_sign_is : IsEscaped equals_sign
equals_sign_is = record { escapes = refl; in_none = λ b escape. ne_eqb b equals_sign (λ same. grind arith) }

-- such a byte stands in no name and no value of a header
escaped_lacks : (c : ℕ) (text : List ℕ) → IsEscaped c → Lacks c (escaped text)
escaped_lacks c text is =
    subst (Lacks c) (escaped_is text) (All-percent_encode (λ b. eqb b c ≡ false) ESCAPED (trim text)
    (λ b kept. ne_eqb b c (λ same. both_ways (should_percent_encode ESCAPED b) kept (needs_escape_is b ∙ ap needs_escape same ∙ is.escapes)))
    is.in_none)

-- a name or a value that is its own trim is said by what is written for it
said_escaped : (text : List ℕ) → IsUtf8 text → trim text ≡ text → said_by (escaped text) ≡ Some text
said_escaped text utf8 tight =
    let decoded : percent_decode (escaped text) ≡ text = ap percent_decode (sym (escaped_is text)) ∙ ap (λ t. percent_decode (percent_encode ESCAPED t)) tight ∙ round_trip ESCAPED text refl (text_bytes text utf8) in
    sym (said (escaped text) (subst IsUtf8 (sym decoded) utf8)) ∙ ap (λ t. Some (trim t)) decoded ∙ ap Some tight

-- a text without a percent sign is decoded as it is
decoded_as_is : (text : List ℕ) → HasNo percent_sign text → percent_decode text ≡ text
decoded_as_is [] none = percent_decode-nil
decoded_as_is (b ∷ bs) none = percent_decode_not_percent b bs none.0 ∙ ap (λ l. b ∷ l) (decoded_as_is bs none.1)

said_as_is : (text : List ℕ) → IsUtf8 text → trim text ≡ text → HasNo percent_sign text → said_by text ≡ Some text
said_as_is text utf8 tight none =
    let decoded = decoded_as_is text none in
    sym (said text (subst IsUtf8 (sym decoded) utf8)) ∙ ap (λ t. Some (trim t)) decoded ∙ ap Some tight

all_said : (texts : List (List ℕ)) → All IsUtf8 texts → All (λ text. trim text ≡ text) texts → All (HasNo percent_sign) texts → filter_map said_by texts ≡ texts
all_said [] utf8 tight none = refl
all_said (text ∷ more) utf8 tight none =
    (λ i. cons_option (said_as_is text (All-head IsUtf8 text more utf8) (All-head (λ t. trim t ≡ t) text more tight) (All-head (HasNo percent_sign) text more none) i) (filter_map said_by more))
    ∙ ap (λ l. text ∷ l) (all_said more (All-tail IsUtf8 text more utf8) (All-tail (λ t. trim t ≡ t) text more tight) (All-tail (HasNo percent_sign) text more none))

-- metadata that is its own trim, piece by piece, is said unchanged
metadata_back : (e : PlainBaggageEntry) → HasTexts e → IsSaidUnchanged e → metadata_of (pieces_at semicolon e.metadata) ≡ e.metadata
unfolding metadata_of
metadata_back e texts unchanged =
    ap (join_with_byte semicolon) (all_said (pieces_at semicolon e.metadata) (pieces_are_texts semicolon e.metadata (lit< tt) texts.metadata) unchanged.parts (pieces_lack semicolon percent_sign e.metadata unchanged.no_percent))
    ∙ join_with_byte-slice_split semicolon e.metadata

metadata_tight : (e : PlainBaggageEntry) → HasTexts e → IsSaidUnchanged e → trim e.metadata ≡ e.metadata
metadata_tight e texts unchanged = trim_pieces semicolon e.metadata (lit< tt) refl texts.metadata unchanged.parts

-- the pair of an entry as its member has it
abbrev pub encoded_pair : PlainBaggageEntry → List ℕ
encoded_pair e = escaped e.key ++ (equals_sign ∷ escaped e.value)

pair_lacks_semicolon : (e : PlainBaggageEntry) → Lacks semicolon (encoded_pair e)
pair_lacks_semicolon e =
    All-append (λ b. eqb b semicolon ≡ false) (escaped e.key) (equals_sign ∷ escaped e.value) (escaped_lacks semicolon e.key semicolon_is)
    (All-cons (λ b. eqb b semicolon ≡ false) equals_sign (escaped e.value) refl (escaped_lacks semicolon e.value semicolon_is))

member_is : (e : PlainBaggageEntry) → trim e.metadata ≡ e.metadata → member_of e ≡ encoded_pair e ++ after_semicolon e.metadata
unfolding member_of
member_is e tight =
    ap (λ m. escaped e.key ++ (equals_sign ∷ (escaped e.value ++ after_semicolon m))) tight
    ∙ sym (append_assoc (escaped e.key) (equals_sign ∷ escaped e.value) (after_semicolon e.metadata))

-- the parts of a member are the pair and the pieces of metadata, if there is any
member_parts : (e : PlainBaggageEntry) (metadata : List ℕ) → (properties : List (List ℕ)) × (pieces_at semicolon (encoded_pair e ++ after_semicolon metadata) ≡ encoded_pair e ∷ properties)
    × (metadata_of (pieces_at semicolon metadata) ≡ metadata → metadata_of properties ≡ metadata)
unfolding metadata_of
member_parts e [] = (
  [],
  ap (pieces_at semicolon) (append-nil (encoded_pair e)) ∙ slice_split_none (λ b. eqb b semicolon) (encoded_pair e) (pair_lacks_semicolon e),
  λ _. refl,
)
member_parts e (b ∷ bs) = (
  pieces_at semicolon (b ∷ bs),
  slice_split_at (λ b. eqb b semicolon) (encoded_pair e) semicolon (b ∷ bs) (pair_lacks_semicolon e) refl,
  λ is. is,
)

pair_pieces : (e : PlainBaggageEntry) → pieces_at equals_sign (encoded_pair e) ≡ escaped e.key ∷ escaped e.value ∷ []
pair_pieces e =
    slice_split_at (λ b. eqb b equals_sign) (escaped e.key) equals_sign (escaped e.value) (escaped_lacks equals_sign e.key equals_sign_is) refl
    ∙ ap (λ l. escaped e.key ∷ l) (slice_split_none (λ b. eqb b equals_sign) (escaped e.value) (escaped_lacks equals_sign e.value equals_sign_is))

named_back : (key value metadata : List ℕ) → key ≢ [] → named_entry (Some key) (Some value) metadata ≡ Some (entry_of key value metadata)
named_back [] value metadata some = absurd (some refl)
named_back (b ∷ key) value metadata some = refl

-- a member says its entry
member_back : (e : PlainBaggageEntry) → e.key ≢ [] → HasTexts e → IsSaidUnchanged e → entry_of_member (member_of e) ≡ Some e
member_back e some texts unchanged =
    let (properties, parts, metadata) = member_parts e e.metadata in
    member_says (member_of e) (encoded_pair e) properties (ap (pieces_at semicolon) (member_is e (metadata_tight e texts unchanged)) ∙ parts)
    ∙ (λ i. paired_entry (pair_pieces e i) (metadata (metadata_back e texts unchanged) i))
    ∙ (λ i. named_entry (said_escaped e.key texts.key unchanged.key i) (said_escaped e.value texts.value unchanged.value i) e.metadata)
    ∙ named_back e.key e.value e.metadata some

members_back : (es : PlainBaggage) → HasNames es → All HasTexts es → All IsSaidUnchanged es → filter_map entry_of_member (map member_of es) ≡ es
members_back [] named texts unchanged = refl
members_back (e ∷ es) named texts unchanged =
    (λ i. cons_option (member_back e named.0 (All-head HasTexts e es texts) (All-head IsSaidUnchanged e es unchanged) i) (filter_map entry_of_member (map member_of es)))
    ∙ ap (λ l. e ∷ l) (members_back es named.1 (All-tail HasTexts e es texts) (All-tail IsSaidUnchanged e es unchanged))

member_lacks_comma : (e : PlainBaggageEntry) → HasTexts e → IsSaidUnchanged e → Lacks comma (member_of e)
member_lacks_comma e texts unchanged =
    subst (Lacks comma) (sym (member_is e (metadata_tight e texts unchanged)))
    (All-append (λ b. eqb b comma ≡ false) (encoded_pair e) (after_semicolon e.metadata)
    (All-append (λ b. eqb b comma ≡ false) (escaped e.key) (equals_sign ∷ escaped e.value) (escaped_lacks comma e.key comma_is)
    (All-cons (λ b. eqb b comma ≡ false) equals_sign (escaped e.value) refl (escaped_lacks comma e.value comma_is)))
    (after e.metadata unchanged.no_comma))
  where
    after : (metadata : List ℕ) → HasNo comma metadata → Lacks comma (after_semicolon metadata)
    after [] none = All-nil (λ b. eqb b comma ≡ false)
    after (b ∷ bs) none = All-cons (λ b. eqb b comma ≡ false) semicolon (b ∷ bs) refl (lacks comma (b ∷ bs) none)

-- texts that lack a byte are the pieces of what it joins
joined_pieces : (c : ℕ) (t : List ℕ) (ts : List (List ℕ)) → All (Lacks c) (t ∷ ts) → pieces_at c (join_with_byte c (t ∷ ts)) ≡ t ∷ ts
joined_pieces c t [] lack = slice_split_none (λ b. eqb b c) t (All-head (Lacks c) t [] lack)
joined_pieces c t (s ∷ ts) lack =
    slice_split_at (λ b. eqb b c) t c (join_with_byte c (s ∷ ts)) (All-head (Lacks c) t (s ∷ ts) lack) (eq-eqb c c refl)
    ∙ ap (λ l. t ∷ l) (joined_pieces c s ts (All-tail (Lacks c) t (s ∷ ts) lack))

members_lack_comma : (es : PlainBaggage) → All HasTexts es → All IsSaidUnchanged es → All (Lacks comma) (map member_of es)
members_lack_comma [] texts unchanged = All-nil (Lacks comma)
members_lack_comma (e ∷ es) texts unchanged =
    All-cons (Lacks comma) (member_of e) (map member_of es) (member_lacks_comma e (All-head HasTexts e es texts) (All-head IsSaidUnchanged e es unchanged))
    (members_lack_comma es (All-tail HasTexts e es texts) (All-tail IsSaidUnchanged e es unchanged))

-- the header of a baggage reads back as it
pub header_back : (es : PlainBaggage) → IsBaggage es → All IsSaidUnchanged es → entries_of (header_of es) ≡ es
unfolding entries_of header_of entry_of_member
header_back [] is unchanged = refl
header_back (e ∷ es) is unchanged =
    let members = map member_of (e ∷ es) in
    let few : take 64 members ≡ members = take_all 64 members (let count = length-map (e ∷ es) member_of in let within = is.within.few in omega arith) in
    ap (λ l. one_a_name (filter_map entry_of_member (take 64 l))) (joined_pieces comma (member_of e) (map member_of es) (members_lack_comma (e ∷ es) is.texts unchanged))
    ∙ ap (λ l. one_a_name (filter_map entry_of_member l)) few
    ∙ ap one_a_name (members_back (e ∷ es) is.within.have_names is.texts unchanged)
    ∙ one_a_name_distinct (e ∷ es) is.distinct

-- a header that is set carries its baggage
pub header_carries : (es : PlainBaggage) (texts : Texts) → IsBaggage es → IsCarriedUnchanged es → texts baggage_field ≡ Some (header_of es) → Carries texts es
header_carries es texts is carried set cx found extracts =
    ap (λ (c : PlainContext). c.baggage) extracts
    ∙ ap (λ text. unwrap_or (read_baggage text) cx.baggage) set
    ∙ ap (λ read. unwrap_or read cx.baggage) (cond-true _ _ _ (le-leb (length (header_of es)) 8192 carried.short))
    ∙ header_back es is carried.entries

-- what was injected carries its baggage
pub injected_baggage_carries : (cx : PlainContext) (old new : Texts) → IsBaggage cx.baggage → IsCarriedUnchanged cx.baggage → InjectsBaggage cx old (Ok tt) new → Carries new cx.baggage
injected_baggage_carries cx old new is carried injects = header_carries cx.baggage new is carried (injects.set carried.some).set
