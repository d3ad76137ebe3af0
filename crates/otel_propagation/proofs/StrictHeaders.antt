-- The laws of strict baggage headers: what is written is of the grammar, and what is read from it is written back.
use Rattle.std.proofs.Common.{◌≡◌, ◌≢◌, ℕ, ◌≤◌, true, false, ◌&&◌, eqb, map, List, [], ◌∷◌, ◌++◌, length, All, refl, sym, ap, ◌∙◌, subst, arith, append-nil, ⊎_elim, inl, inr, eq-eqb}
use Rattle.std.specs.List.{AllByRecursion, cons_option, filter, filter_map, flat_map, join_with_byte}
use Rattle.std.proofs.lemmas.Bool.{cases_Bool, cond-true, cond-false}
use Rattle.std.proofs.lemmas.Bool.Decides.{nat_tests}
use Rattle.std.proofs.lemmas.List.Elements.{All-head, All-tail, filter-append}
use Rattle.std.proofs.lemmas.List.Splits.{slice_split_none, slice_split_at}
use Rattle.percent_encoding.specs.Percent.{percent_encode_byte}
use Rattle.percent_encoding.proofs.PercentLemmas.{All-percent_encode_byte, IsEscapeByte}
use Rattle.opentelemetry.specs.Baggage.{PlainBaggage, PlainBaggageEntry, entry_of, HasDistinctNames, IsWithinLimits}
use Rattle.opentelemetry.specs.Members.{comma, equals_sign, pieces_at, semicolon}
use Rattle.opentelemetry.proofs.Tracestates.{both_true}
use Rattle.otel_propagation.specs.BaggageHeader.{after_semicolon}
use Rattle.otel_propagation.specs.StrictGrammar.{are_octets, is_octet, is_token, without_blanks, AreListMembers, AreProperties, IsBaggageHeader, IsListMember, IsOptionalSpace, IsProperty}
use Rattle.otel_propagation.specs.StrictGrammar.IsProperty.{key_alone, key_and_value}
use Rattle.otel_propagation.specs.StrictGrammar.AreProperties.{no_property, next_property}
use Rattle.otel_propagation.specs.StrictGrammar.AreListMembers.{last_member, next_member}
use Rattle.otel_propagation.specs.StrictBaggage.{has_token_name, properties_onto, spelled_header, spelled_member, strict_entries_of, strict_header_of, strict_metadata_of, strict_pair, strict_property, written_entries, written_entry, written_octet, written_value}
use Rattle.otel_propagation.proofs.BaggagePieceLemmas.{Lacks}
use Rattle.otel_propagation.proofs.StrictBytes.{all_append, blanks_gone, dark_kept, dark_key, dark_octets, is_dark, semicolon_is}
use Rattle.otel_propagation.proofs.StrictPairs.{key_tight, onto_after, properties_tight, IsTightProperty}
use Rattle.otel_propagation.proofs.StrictReads.{header_reads, property_lacks, tight_reads}

-- an entry as a member spells it: its name, its value and its properties are of the grammar
pub record IsTightEntry (e : PlainBaggageEntry) : Type 0 where
  pub say : List (List ℕ)
  pub key : is_token e.key ≡ true
  pub value : are_octets e.value ≡ true
  pub properties : AllByRecursion IsTightProperty say
  pub metadata : e.metadata ≡ join_with_byte semicolon say

-- each byte of a value is an octet when it is written
escape_octet : (b : ℕ) → IsEscapeByte b → is_octet b ≡ true
unfolding is_octet
escape_octet b (inl is) = ap is_octet is
escape_octet b (inr (inl digit)) = grind (arith, nat_tests)
escape_octet b (inr (inr letter)) = grind (arith, nat_tests)

pub escape_octets : (bytes : List ℕ) → All IsEscapeByte bytes → are_octets bytes ≡ true
escape_octets [] all = refl
escape_octets (b ∷ bs) all = λ i. escape_octet b (All-head IsEscapeByte b bs all) i && escape_octets bs (All-tail IsEscapeByte b bs all) i

octets_written : (value : List ℕ) → are_octets (flat_map written_octet value) ≡ true
octets_written [] = refl
octets_written (b ∷ bs) =
    all_append is_octet (written_octet b) (flat_map written_octet bs)
    (⊎_elim
    (λ here. ap are_octets (cond-true _ _ _ here) ∙ (λ i. here i && true))
    (λ here. ap are_octets (cond-false _ _ _ here) ∙ escape_octets (percent_encode_byte b) (All-percent_encode_byte b))
    (cases_Bool (is_octet b)))
    (octets_written bs)

octets_stay : (value : List ℕ) → are_octets value ≡ true → flat_map written_octet value ≡ value
octets_stay [] are = refl
octets_stay (b ∷ bs) are =
    let parts = both_true (is_octet b) (are_octets bs) are in (λ i. cond-true _ (b ∷ []) (percent_encode_byte b) parts.0 i ++ octets_stay bs parts.1 i)

-- an entry whose name is a token is written as such
written_tight : (e : PlainBaggageEntry) → is_token e.key ≡ true → IsTightEntry (written_entry e)
unfolding written_value strict_metadata_of
written_tight e is = record {
  say = filter_map strict_property (pieces_at semicolon e.metadata);
  key = is;
  value = octets_written e.value;
  properties = properties_tight (pieces_at semicolon e.metadata);
  metadata = refl;
}

filtered_tight : (es : PlainBaggage) → AllByRecursion IsTightEntry (map written_entry (filter has_token_name es))
filtered_tight [] = tt
filtered_tight (e ∷ es) =
    let rest = filtered_tight es in
    ⊎_elim
    (λ token. subst (λ (l : PlainBaggage). AllByRecursion IsTightEntry (map written_entry l)) (sym (cond-true _ _ _ token)) (written_tight e token, rest))
    (λ none. subst (λ (l : PlainBaggage). AllByRecursion IsTightEntry (map written_entry l)) (sym (cond-false _ _ _ none)) rest)
    (cases_Bool (is_token e.key))

pub entries_tight : (es : PlainBaggage) → AllByRecursion IsTightEntry (written_entries es)
unfolding written_entries
entries_tight es = filtered_tight es

-- such an entry is spelled by its member, and such entries by their header
properties_spelled : (say : List (List ℕ)) → AllByRecursion IsTightProperty say → AreProperties (properties_onto false say) say
properties_spelled [] tight = no_property
properties_spelled (p ∷ ps) tight = next_property [] [] p p (properties_onto false ps) ps refl refl tight.0 (properties_spelled ps tight.1)

pub member_parts : (e : PlainBaggageEntry) (tight : IsTightEntry e) → spelled_member e ≡ e.key ++ equals_sign ∷ (e.value ++ properties_onto false tight.say)
member_parts e tight =
    ap (λ m. e.key ++ equals_sign ∷ (e.value ++ after_semicolon m)) tight.metadata
    ∙ ap (λ t. e.key ++ equals_sign ∷ (e.value ++ t)) (sym (onto_after tight.say tight.properties))

member_spelled : (e : PlainBaggageEntry) → IsTightEntry e → IsListMember (spelled_member e) e
member_spelled e tight = record {
  before = [];
  after = [];
  properties = properties_onto false tight.say;
  say = tight.say;
  key = tight.key;
  before_is = refl;
  after_is = refl;
  value = tight.value;
  properties_are = properties_spelled tight.say tight.properties;
  metadata = tight.metadata;
  spelled = member_parts e tight;
}

pub members_spelled : (e : PlainBaggageEntry) (es : PlainBaggage) → AllByRecursion IsTightEntry (e ∷ es) → AreListMembers (spelled_header (e ∷ es)) (e ∷ es)
members_spelled e [] tight = last_member (spelled_member e) e (member_spelled e tight.0)
members_spelled e (f ∷ es) tight = next_member (spelled_member e) [] [] (spelled_header (f ∷ es)) e (f ∷ es) (member_spelled e tight.0) refl refl (members_spelled f es tight.1)

pub header_spelled : (es : PlainBaggage) → AllByRecursion IsTightEntry es → length es ≤ 180 → spelled_header es ≢ [] → IsBaggageHeader (spelled_header es) es
header_spelled [] tight few some = absurd (some refl)
header_spelled (e ∷ es) tight few some = record { members = members_spelled e es tight; few = few }

filtered_count : (es : PlainBaggage) → length (map written_entry (filter has_token_name es)) ≤ length es
filtered_count [] = omega arith
filtered_count (e ∷ es) =
    let rest = filtered_count es in
    ⊎_elim
    (λ token. let same = ap (λ (l : PlainBaggage). length (map written_entry l)) (cond-true (has_token_name e) (e ∷ filter has_token_name es) (filter has_token_name es) token) in omega arith)
    (λ none. let same = ap (λ (l : PlainBaggage). length (map written_entry l)) (cond-false (has_token_name e) (e ∷ filter has_token_name es) (filter has_token_name es) none) in omega arith)
    (cases_Bool (is_token e.key))

-- what is written of a baggage is a header of the grammar
pub written_is_header : (es : PlainBaggage) → IsWithinLimits es → strict_header_of es ≢ [] → IsBaggageHeader (strict_header_of es) (written_entries es)
unfolding strict_header_of written_entries
written_is_header es within some =
    let count = filtered_count es in
    let few = within.few in
    header_spelled (written_entries es) (entries_tight es) (omega arith) some

-- texts that lack a byte are the pieces of what it joins
joined_pieces : (c : ℕ) (t : List ℕ) (ts : List (List ℕ)) → AllByRecursion (Lacks c) (t ∷ ts) → pieces_at c (join_with_byte c (t ∷ ts)) ≡ t ∷ ts
joined_pieces c t [] lack = slice_split_none (λ b. eqb b c) t lack.0
joined_pieces c t (s ∷ ts) lack =
    slice_split_at (λ b. eqb b c) t c (join_with_byte c (s ∷ ts)) lack.0 (eq-eqb c c refl)
    ∙ ap (λ l. t ∷ l) (joined_pieces c s ts lack.1)

properties_lack : (say : List (List ℕ)) → AllByRecursion IsTightProperty say → AllByRecursion (Lacks semicolon) say
properties_lack [] tight = tt
properties_lack (p ∷ ps) tight = (property_lacks semicolon semicolon_is p p tight.0, properties_lack ps tight.1)

properties_stay : (say : List (List ℕ)) → AllByRecursion IsTightProperty say → filter_map strict_property say ≡ say
properties_stay [] tight = refl
properties_stay (p ∷ ps) tight = (λ i. cons_option (tight_reads p tight.0 i) (filter_map strict_property ps)) ∙ ap (λ l. p ∷ l) (properties_stay ps tight.1)

metadata_stays : (say : List (List ℕ)) → AllByRecursion IsTightProperty say → join_with_byte semicolon (filter_map strict_property (pieces_at semicolon (join_with_byte semicolon say))) ≡ join_with_byte semicolon say
unfolding strict_pair
metadata_stays [] tight = refl
metadata_stays (p ∷ ps) tight =
    ap (λ l. join_with_byte semicolon (filter_map strict_property l)) (joined_pieces semicolon p ps (properties_lack (p ∷ ps) tight))
    ∙ ap (join_with_byte semicolon) (properties_stay (p ∷ ps) tight)

-- an entry that a member spells is written as it is
entry_stays : (e : PlainBaggageEntry) → IsTightEntry e → written_entry e ≡ e
unfolding written_value strict_metadata_of
entry_stays e tight =
    let metadata = ap (λ m. join_with_byte semicolon (filter_map strict_property (pieces_at semicolon m))) tight.metadata ∙ metadata_stays tight.say tight.properties ∙ sym tight.metadata in
    λ i. entry_of e.key (octets_stay e.value tight.value i) (metadata i)

filtered_stay : (es : PlainBaggage) → AllByRecursion IsTightEntry es → map written_entry (filter has_token_name es) ≡ es
filtered_stay [] tight = refl
filtered_stay (e ∷ es) tight =
    ap (map written_entry) (cond-true _ (e ∷ filter has_token_name es) (filter has_token_name es) tight.0.key)
    ∙ (λ i. entry_stays e tight.0 i ∷ filtered_stay es tight.1 i)

pub entries_stay : (es : PlainBaggage) → AllByRecursion IsTightEntry es → written_entries es ≡ es
unfolding written_entries
entries_stay es tight = filtered_stay es tight

pub header_stays : (es : PlainBaggage) → AllByRecursion IsTightEntry es → strict_header_of es ≡ spelled_header es
unfolding strict_header_of
header_stays es tight = ap spelled_header (entries_stay es tight)

-- the entries that a header spells are such
property_tight : (text says : List ℕ) → IsProperty text says → IsTightProperty says
property_tight _ _ (key_alone key space is blank) = key_tight key is
property_tight _ _ (key_and_value key before after value is blank more octets) = key_and_value key [] [] value is refl refl octets

said_tight : (text : List ℕ) (says : List (List ℕ)) → AreProperties text says → AllByRecursion IsTightProperty says
said_tight _ _ no_property = tt
said_tight _ _ (next_property before after property says rest others blank more is next) = (property_tight property says is, said_tight rest others next)

member_tight : (text : List ℕ) (e : PlainBaggageEntry) → IsListMember text e → IsTightEntry e
member_tight text e is = record {
  say = is.say;
  key = is.key;
  value = is.value;
  properties = said_tight is.properties is.say is.properties_are;
  metadata = is.metadata;
}

pub members_tight : (text : List ℕ) (es : PlainBaggage) → AreListMembers text es → AllByRecursion IsTightEntry es
members_tight _ _ (last_member text e is) = (member_tight text e is, tt)
members_tight _ _ (next_member text before after rest e es is blank more next) = (member_tight text e is, members_tight rest es next)

-- without optional white space a header is the one of its entries
gone_between : (before after text : List ℕ) (c : ℕ) → IsOptionalSpace before → IsOptionalSpace after → is_dark c ≡ true → without_blanks (before ++ c ∷ (after ++ text)) ≡ c ∷ without_blanks text
gone_between before after text c before_is after_is dark =
    filter-append is_dark before (c ∷ (after ++ text))
    ∙ (λ i. blanks_gone before before_is i ++ cond-true (is_dark c) (c ∷ without_blanks (after ++ text)) (without_blanks (after ++ text)) dark i)
    ∙ ap (λ l. c ∷ l) (filter-append is_dark after text ∙ ap (λ l. l ++ without_blanks text) (blanks_gone after after_is))

property_bare : (text says : List ℕ) → IsProperty text says → without_blanks text ≡ says
property_bare _ _ (key_alone key space is blank) =
    filter-append is_dark key space ∙ (λ i. dark_kept key (dark_key key is) i ++ blanks_gone space blank i) ∙ append-nil key
property_bare _ _ (key_and_value key before after value is before_is after_is octets) =
    filter-append is_dark key (before ++ equals_sign ∷ (after ++ value))
    ∙ (λ i. dark_kept key (dark_key key is) i ++ gone_between before after value equals_sign before_is after_is refl i)
    ∙ ap (λ t. key ++ equals_sign ∷ t) (dark_kept value (dark_octets value octets))

properties_bare : (text : List ℕ) (says : List (List ℕ)) → AreProperties text says → without_blanks text ≡ properties_onto false says
properties_bare _ _ no_property = refl
properties_bare _ _ (next_property before after property says rest others before_is after_is is more) =
    gone_between before after (property ++ rest) semicolon before_is after_is refl
    ∙ ap (λ l. semicolon ∷ l) (filter-append is_dark property rest ∙ (λ i. property_bare property says is i ++ properties_bare rest others more i))

member_bare : (text : List ℕ) (e : PlainBaggageEntry) → IsListMember text e → without_blanks text ≡ spelled_member e
member_bare text e is =
    ap without_blanks is.spelled
    ∙ filter-append is_dark e.key (is.before ++ equals_sign ∷ (is.after ++ (e.value ++ is.properties)))
    ∙ (λ i. dark_kept e.key (dark_key e.key is.key) i ++ gone_between is.before is.after (e.value ++ is.properties) equals_sign is.before_is is.after_is refl i)
    ∙ ap (λ t. e.key ++ equals_sign ∷ t) (filter-append is_dark e.value is.properties
    ∙ (λ i. dark_kept e.value (dark_octets e.value is.value) i ++ properties_bare is.properties is.say is.properties_are i)
    ∙ ap (λ t. e.value ++ t) (onto_after is.say (said_tight is.properties is.say is.properties_are) ∙ ap after_semicolon (sym is.metadata)))

pub some_entries : (text : List ℕ) (es : PlainBaggage) → AreListMembers text es → es ≢ []
some_entries _ _ (last_member text e is) none = absurd (cc)
some_entries _ _ (next_member text before after rest e es is blank more next) none = absurd (cc)

join_more : (e : PlainBaggageEntry) (es : PlainBaggage) → es ≢ [] → spelled_header (e ∷ es) ≡ spelled_member e ++ comma ∷ spelled_header es
join_more e [] some = absurd (some refl)
join_more e (f ∷ es) some = refl

pub members_bare : (text : List ℕ) (es : PlainBaggage) → AreListMembers text es → without_blanks text ≡ spelled_header es
members_bare _ _ (last_member text e is) = member_bare text e is
members_bare _ _ (next_member text before after rest e es is before_is after_is next) =
    filter-append is_dark text (before ++ comma ∷ (after ++ rest))
    ∙ (λ i. member_bare text e is i ++ gone_between before after rest comma before_is after_is refl i)
    ∙ ap (λ t. spelled_member e ++ comma ∷ t) (members_bare rest es next)
    ∙ sym (join_more e es (some_entries rest es next))

-- what is read is written back, without the optional white space
pub header_passed_on : (text : List ℕ) (es : PlainBaggage) → IsBaggageHeader text es → HasDistinctNames es → length es ≤ 64 → strict_header_of (strict_entries_of text) ≡ without_blanks text
header_passed_on text es is distinct few =
    ap strict_header_of (header_reads text es is distinct few) ∙ header_stays es (members_tight text es is.members) ∙ sym (members_bare text es is.members)
