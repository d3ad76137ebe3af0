-- What the strict reader makes of a header of the grammar: the entries that it spells, each in its place.
use Rattle.std.proofs.Common.{◌≡◌, ℕ, ◌≤◌, true, false, ◌&&◌, eqb, is_some, suc, List, [], ◌∷◌, ◌++◌, length, take, Option, Some, None, refl, sym, ap, ◌∙◌, subst, arith, append-nil, append_assoc}
use Rattle.std.specs.List.{cons_option, filter_map, join_with_byte}
use Rattle.std.specs.Option.{option_map}
use Rattle.std.proofs.lemmas.Bool.{cond-true}
use Rattle.std.proofs.lemmas.List.{take_all}
use Rattle.std.proofs.lemmas.List.Elements.{All-nil}
use Rattle.std.proofs.lemmas.List.Splits.{slice_split_none, slice_split_at}
use Rattle.opentelemetry.specs.Baggage.{PlainBaggage, PlainBaggageEntry, entry_of, HasDistinctNames}
use Rattle.opentelemetry.specs.Members.{comma, equals_sign, pieces_at, semicolon}
use Rattle.otel_propagation.specs.BaggageHeader.{one_a_name}
use Rattle.otel_propagation.specs.StrictGrammar.{are_octets, is_token, AreListMembers, AreProperties, IsBaggageHeader, IsListMember, IsOptionalSpace, IsProperty}
use Rattle.otel_propagation.specs.StrictGrammar.IsProperty.{key_alone, key_and_value}
use Rattle.otel_propagation.specs.StrictGrammar.AreProperties.{no_property, next_property}
use Rattle.otel_propagation.specs.StrictGrammar.AreListMembers.{last_member, next_member}
use Rattle.otel_propagation.specs.StrictBaggage.{are_properties, checked_key, checked_pair, pair_of_cut, spelled_pair, strict_entries_of, strict_entry_of_member, strict_entry_of_parts, strict_metadata_of, strict_pair, strict_paired_entry, strict_property, StrictPair}
use Rattle.otel_propagation.proofs.BaggageNames.{one_a_name_distinct}
use Rattle.otel_propagation.proofs.BaggagePieceLemmas.{Lacks}
use Rattle.otel_propagation.proofs.StrictBytes.{all_append, both_lack, comma_is, cons_lacks, cut_found, cut_none, dark_key, dark_octets, key_lacks, key_lacks_equals, octets_lack, semicolon_is, space_lacks, trim_between, IsBreak}

-- a key with a value, optional white space around both
pair_reads : (lead key before after value trail : List ℕ) → IsOptionalSpace lead → is_token key ≡ true → IsOptionalSpace before → IsOptionalSpace after → are_octets value ≡ true → IsOptionalSpace trail
    → strict_pair ((lead ++ (key ++ before)) ++ equals_sign ∷ (after ++ (value ++ trail))) ≡ Some (key, Some value)
unfolding strict_pair
pair_reads lead key before after value trail lead_is key_is before_is after_is value_is trail_is =
    let text = (lead ++ (key ++ before)) ++ equals_sign ∷ (after ++ (value ++ trail)) in
    ap (pair_of_cut text) (cut_found 61 (lead ++ (key ++ before)) (after ++ (value ++ trail))
    (both_lack 61 lead (key ++ before) (space_lacks 61 refl lead lead_is) (both_lack 61 key before (key_lacks_equals key key_is) (space_lacks 61 refl before before_is))))
    ∙ (λ i. checked_pair (trim_between lead key before lead_is (dark_key key key_is) before_is i) (trim_between after value trail after_is (dark_octets value value_is) trail_is i))
    ∙ cond-true _ _ _ (λ i. key_is i && value_is i)

-- a key alone
key_reads : (lead key trail : List ℕ) → IsOptionalSpace lead → is_token key ≡ true → IsOptionalSpace trail → strict_pair (lead ++ (key ++ trail)) ≡ Some (key, None)
unfolding strict_pair
key_reads lead key trail lead_is key_is trail_is =
    let text = lead ++ (key ++ trail) in
    ap (pair_of_cut text) (cut_none 61 text (both_lack 61 lead (key ++ trail) (space_lacks 61 refl lead lead_is) (both_lack 61 key trail (key_lacks_equals key key_is) (space_lacks 61 refl trail trail_is))))
    ∙ ap checked_key (trim_between lead key trail lead_is (dark_key key key_is) trail_is)
    ∙ cond-true _ _ _ key_is

-- a property of the grammar
property_reads : (lead text trail says : List ℕ) → IsOptionalSpace lead → IsOptionalSpace trail → IsProperty text says → strict_property (lead ++ (text ++ trail)) ≡ Some says
property_reads lead _ trail _ lead_is trail_is (key_alone key space key_is space_is) =
    ap (λ t. option_map spelled_pair (strict_pair (lead ++ t))) (append_assoc key space trail)
    ∙ ap (option_map spelled_pair) (key_reads lead key (space ++ trail) lead_is key_is (all_append _ space trail space_is trail_is))
property_reads lead _ trail _ lead_is trail_is (key_and_value key before after value key_is before_is after_is value_is) =
    let same : lead ++ ((key ++ (before ++ equals_sign ∷ (after ++ value))) ++ trail) ≡ (lead ++ (key ++ before)) ++ equals_sign ∷ (after ++ (value ++ trail)) = simp append_assoc in
    ap (λ t. option_map spelled_pair (strict_pair t)) same
    ∙ ap (option_map spelled_pair) (pair_reads lead key before after value trail lead_is key_is before_is after_is value_is trail_is)

-- without optional white space it is read as it stands
pub tight_reads : (text : List ℕ) → IsProperty text text → strict_property text ≡ Some text
tight_reads text is = ap strict_property (sym (append-nil text)) ∙ property_reads [] text [] text refl refl is

-- neither commas nor semicolons stand in a property
pub property_lacks : (c : ℕ) → IsBreak c → (text says : List ℕ) → IsProperty text says → Lacks c text
property_lacks c breaks _ _ (key_alone key space key_is space_is) = both_lack c key space (key_lacks c breaks key key_is) (space_lacks c breaks.blank space space_is)
property_lacks c breaks _ _ (key_and_value key before after value key_is before_is after_is value_is) =
    both_lack c key (before ++ equals_sign ∷ (after ++ value)) (key_lacks c breaks key key_is)
    (both_lack c before (equals_sign ∷ (after ++ value)) (space_lacks c breaks.blank before before_is)
    (cons_lacks c equals_sign (after ++ value) breaks.equals (both_lack c after value (space_lacks c breaks.blank after after_is) (octets_lack c breaks value value_is))))

properties_lack_comma : (text : List ℕ) (says : List (List ℕ)) → AreProperties text says → Lacks comma text
properties_lack_comma _ _ no_property = All-nil (λ b. eqb b comma ≡ false)
properties_lack_comma _ _ (next_property before after property says rest others before_is after_is is more) =
    both_lack comma before (semicolon ∷ (after ++ (property ++ rest))) (space_lacks comma refl before before_is)
    (cons_lacks comma semicolon (after ++ (property ++ rest)) refl
    (both_lack comma after (property ++ rest) (space_lacks comma refl after after_is)
    (both_lack comma property rest (property_lacks comma comma_is property says is) (properties_lack_comma rest others more))))

-- a text with properties after it, cut at the semicolons
record IsCut (front text : List ℕ) (says : List (List ℕ)) : Type 0 where
  space : List ℕ
  pieces : List (List ℕ)
  space_is : IsOptionalSpace space
  cut : pieces_at semicolon text ≡ (front ++ space) ∷ pieces
  said : filter_map strict_property pieces ≡ says
  all : are_properties pieces ≡ true

some_pair : (pair : Option StrictPair) (says : List ℕ) → option_map spelled_pair pair ≡ Some says → is_some pair ≡ true
some_pair None says is = absurd (cc)
some_pair (Some pair) says is = refl

properties_cut : (front trail text : List ℕ) (says : List (List ℕ)) → Lacks semicolon front → IsOptionalSpace trail → AreProperties text says → IsCut front (front ++ (text ++ trail)) says
properties_cut front trail _ _ lacks trail_is no_property = record {
  space = trail;
  pieces = [];
  space_is = trail_is;
  cut = slice_split_none (λ b. eqb b semicolon) (front ++ trail) (both_lack semicolon front trail lacks (space_lacks semicolon refl trail trail_is));
  said = refl;
  all = refl;
}
properties_cut front trail _ _ lacks trail_is (next_property before after property says rest others before_is after_is is more) =
    let text = before ++ semicolon ∷ (after ++ (property ++ rest)) in
    let same : front ++ (text ++ trail) ≡ (front ++ before) ++ semicolon ∷ ((after ++ property) ++ (rest ++ trail)) = simp append_assoc in
    let next = properties_cut (after ++ property) trail rest others
    (both_lack semicolon after property (space_lacks semicolon refl after after_is) (property_lacks semicolon semicolon_is property says is)) trail_is more in
    let here : strict_property ((after ++ property) ++ next.space) ≡ Some says =
    ap strict_property (append_assoc after property next.space) ∙ property_reads after property next.space says after_is next.space_is is in
    record {
      space = before;
      pieces = ((after ++ property) ++ next.space) ∷ next.pieces;
      space_is = before_is;
      cut =
          ap (pieces_at semicolon) same
          ∙ slice_split_at (λ b. eqb b semicolon) (front ++ before) semicolon ((after ++ property) ++ (rest ++ trail)) (both_lack semicolon front before lacks (space_lacks semicolon refl before before_is)) refl
          ∙ ap (λ l. (front ++ before) ∷ l) next.cut;
      said = λ i. cons_option (here i) (next.said i);
      all = λ i. some_pair (strict_pair ((after ++ property) ++ next.space)) says here i && next.all i;
    }

-- how the parts of a member are put together
member_parts : (lead key before after value properties trail : List ℕ) → lead ++ ((key ++ (before ++ equals_sign ∷ (after ++ (value ++ properties)))) ++ trail) ≡ ((lead ++ (key ++ before)) ++ equals_sign ∷ (after ++ value)) ++ (properties ++ trail)
member_parts lead key before after value properties trail = simp append_assoc

pair_parts : (lead key before after value space : List ℕ) → ((lead ++ (key ++ before)) ++ equals_sign ∷ (after ++ value)) ++ space ≡ (lead ++ (key ++ before)) ++ equals_sign ∷ (after ++ (value ++ space))
pair_parts lead key before after value space = simp append_assoc

-- a member of the grammar
member_reads : (lead text trail : List ℕ) (e : PlainBaggageEntry) → IsOptionalSpace lead → IsOptionalSpace trail → IsListMember text e → strict_entry_of_member (lead ++ (text ++ trail)) ≡ Some e
unfolding strict_entry_of_member strict_metadata_of
member_reads lead text trail e lead_is trail_is is =
    let front = (lead ++ (e.key ++ is.before)) ++ equals_sign ∷ (is.after ++ e.value) in
    let whole : lead ++ ((e.key ++ (is.before ++ equals_sign ∷ (is.after ++ (e.value ++ is.properties)))) ++ trail) ≡ front ++ (is.properties ++ trail) = member_parts lead e.key is.before is.after e.value is.properties trail in
    let lacks : Lacks semicolon front =
    both_lack semicolon (lead ++ (e.key ++ is.before)) (equals_sign ∷ (is.after ++ e.value))
    (both_lack semicolon lead (e.key ++ is.before) (space_lacks semicolon refl lead lead_is) (both_lack semicolon e.key is.before (key_lacks semicolon semicolon_is e.key is.key) (space_lacks semicolon refl is.before is.before_is)))
    (cons_lacks semicolon equals_sign (is.after ++ e.value) refl (both_lack semicolon is.after e.value (space_lacks semicolon refl is.after is.after_is) (octets_lack semicolon semicolon_is e.value is.value))) in
    let parts = properties_cut front trail is.properties is.say lacks trail_is is.properties_are in
    let pair : front ++ parts.space ≡ (lead ++ (e.key ++ is.before)) ++ equals_sign ∷ (is.after ++ (e.value ++ parts.space)) = pair_parts lead e.key is.before is.after e.value parts.space in
    ap (λ t. strict_entry_of_parts (pieces_at semicolon (lead ++ (t ++ trail)))) is.spelled
    ∙ ap (λ t. strict_entry_of_parts (pieces_at semicolon t)) whole
    ∙ ap strict_entry_of_parts parts.cut
    ∙ ap (λ t. strict_paired_entry (strict_pair t) parts.pieces) pair
    ∙ ap (λ p. strict_paired_entry p parts.pieces) (pair_reads lead e.key is.before is.after e.value parts.space lead_is is.key is.before_is is.after_is is.value parts.space_is)
    ∙ ap (option_map (entry_of e.key e.value)) (cond-true _ _ _ parts.all)
    ∙ ap (λ ps. Some (entry_of e.key e.value (join_with_byte semicolon ps))) parts.said
    ∙ ap (λ m. Some (entry_of e.key e.value m)) (sym is.metadata)

member_lacks_comma : (text : List ℕ) (e : PlainBaggageEntry) → IsListMember text e → Lacks comma text
member_lacks_comma text e is =
    subst (Lacks comma) (sym is.spelled)
    (both_lack comma e.key (is.before ++ equals_sign ∷ (is.after ++ (e.value ++ is.properties))) (key_lacks comma comma_is e.key is.key)
    (both_lack comma is.before (equals_sign ∷ (is.after ++ (e.value ++ is.properties))) (space_lacks comma refl is.before is.before_is)
    (cons_lacks comma equals_sign (is.after ++ (e.value ++ is.properties)) refl
    (both_lack comma is.after (e.value ++ is.properties) (space_lacks comma refl is.after is.after_is)
    (both_lack comma e.value is.properties (octets_lack comma comma_is e.value is.value) (properties_lack_comma is.properties is.say is.properties_are))))))

-- the members of a header, each with the optional white space around it, say its entries
record MembersRead (members : List (List ℕ)) (es : PlainBaggage) : Type 0 where
  said : filter_map strict_entry_of_member members ≡ es
  count : length members ≡ length es

members_read : (lead text : List ℕ) (es : PlainBaggage) → IsOptionalSpace lead → AreListMembers text es → MembersRead (pieces_at comma (lead ++ text)) es
members_read lead _ _ lead_is (last_member text e is) =
    let lacks = both_lack comma lead text (space_lacks comma refl lead lead_is) (member_lacks_comma text e is) in
    let one = slice_split_none (λ b. eqb b comma) (lead ++ text) lacks in
    let says : strict_entry_of_member (lead ++ text) ≡ Some e = ap (λ t. strict_entry_of_member (lead ++ t)) (sym (append-nil text)) ∙ member_reads lead text [] e lead_is refl is in
    subst (λ (members : List (List ℕ)). MembersRead members (e ∷ [])) (sym one) (record { said = ap (λ s. cons_option s []) says; count = refl })
members_read lead _ _ lead_is (next_member text before after rest e es is before_is after_is more) =
    let same : lead ++ (text ++ (before ++ comma ∷ (after ++ rest))) ≡ (lead ++ (text ++ before)) ++ comma ∷ (after ++ rest) = simp append_assoc in
    let lacks : Lacks comma (lead ++ (text ++ before)) =
    both_lack comma lead (text ++ before) (space_lacks comma refl lead lead_is) (both_lack comma text before (member_lacks_comma text e is) (space_lacks comma refl before before_is)) in
    let cut = ap (pieces_at comma) same ∙ slice_split_at (λ b. eqb b comma) (lead ++ (text ++ before)) comma (after ++ rest) lacks refl in
    let next = members_read after rest es after_is more in
    subst (λ (members : List (List ℕ)). MembersRead members (e ∷ es)) (sym cut)
    (record { said = λ i. cons_option (member_reads lead text before e lead_is before_is is i) (next.said i); count = ap (λ n. suc n) next.count })

-- a header of the grammar with one entry a name, and at most 64 of them, reads as its entries
pub header_reads : (text : List ℕ) (es : PlainBaggage) → IsBaggageHeader text es → HasDistinctNames es → length es ≤ 64 → strict_entries_of text ≡ es
unfolding strict_entries_of
header_reads text es is distinct few =
    let read = members_read [] text es refl is.members in
    let all : take 64 (pieces_at comma text) ≡ pieces_at comma text = take_all 64 (pieces_at comma text) (let count = read.count in omega arith) in
    ap (λ l. one_a_name (filter_map strict_entry_of_member l)) all ∙ ap one_a_name read.said ∙ one_a_name_distinct es distinct
