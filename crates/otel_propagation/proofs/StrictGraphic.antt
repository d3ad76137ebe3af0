-- Each byte of a strict baggage header is a graphic character of ASCII.
use Rattle.std.proofs.Common.{◌≡◌, ℕ, true, false, ◌&&◌, List, [], ◌∷◌, ◌++◌, All, refl, ap, ◌∙◌, ⊎_elim, arith}
use Rattle.std.specs.List.{AllByRecursion, list_all}
use Rattle.std.proofs.lemmas.Bool.{agree_below_at, cases_lt}
use Rattle.std.proofs.lemmas.Bool.Decides.{nat_tests}
use Rattle.std.proofs.lemmas.List.Elements.{All-nil, All-cons}
use Rattle.opentelemetry.specs.Baggage.{PlainBaggage, PlainBaggageEntry}
use Rattle.opentelemetry.specs.Members.{comma, equals_sign}
use Rattle.opentelemetry.proofs.Tracestates.{both_true}
use Rattle.otel_propagation.specs.StrictGrammar.{are_octets, is_octet, is_token, is_token_byte, IsProperty}
use Rattle.otel_propagation.specs.StrictGrammar.IsProperty.{key_alone, key_and_value}
use Rattle.otel_propagation.specs.StrictBaggage.{properties_onto, spelled_header, spelled_member, strict_header_of, written_entries}
use Rattle.otel_propagation.specs.StrictLaws.{is_graphic}
use Rattle.otel_propagation.proofs.StrictBytes.{all_append, all_weaker, key_bytes}
use Rattle.otel_propagation.proofs.StrictPairs.{IsTightProperty}
use Rattle.otel_propagation.proofs.StrictHeaders.{entries_tight, member_parts, IsTightEntry}

octet_is : (b : ℕ) → is_octet b ≡ true → is_graphic b ≡ true
unfolding is_octet
octet_is b is =
    ⊎_elim
    (λ low. (both_true (is_octet b) (is_graphic b) (agree_below_at (λ c. is_octet c && is_graphic c) is_octet 128 b refl low ∙ is)).1)
    (λ high. grind (arith, nat_tests)) (cases_lt b 128)

token_is : (b : ℕ) → is_token_byte b ≡ true → is_graphic b ≡ true
unfolding is_token_byte
token_is b is =
    ⊎_elim
    (λ low. (both_true (is_token_byte b) (is_graphic b) (agree_below_at (λ c. is_token_byte c && is_graphic c) is_token_byte 128 b refl low ∙ is)).1)
    (λ high. grind (arith, nat_tests)) (cases_lt b 128)

graphic_key : (key : List ℕ) → is_token key ≡ true → list_all is_graphic key ≡ true
graphic_key key is = all_weaker is_token_byte is_graphic token_is key (key_bytes key is)

graphic_value : (value : List ℕ) → are_octets value ≡ true → list_all is_graphic value ≡ true
graphic_value value are = all_weaker is_octet is_graphic octet_is value are

graphic_property : (text says : List ℕ) → IsProperty text says → list_all is_graphic says ≡ true
graphic_property _ _ (key_alone key space is blank) = graphic_key key is
graphic_property _ _ (key_and_value key before after value is blank more octets) = all_append is_graphic key (equals_sign ∷ value) (graphic_key key is) (graphic_value value octets)

graphic_properties : (say : List (List ℕ)) → AllByRecursion IsTightProperty say → list_all is_graphic (properties_onto false say) ≡ true
graphic_properties [] tight = refl
graphic_properties (p ∷ ps) tight = all_append is_graphic p (properties_onto false ps) (graphic_property p p tight.0) (graphic_properties ps tight.1)

graphic_member : (e : PlainBaggageEntry) → IsTightEntry e → list_all is_graphic (spelled_member e) ≡ true
graphic_member e tight =
    ap (list_all is_graphic) (member_parts e tight)
    ∙ all_append is_graphic e.key (equals_sign ∷ (e.value ++ properties_onto false tight.say)) (graphic_key e.key tight.key)
    (all_append is_graphic e.value (properties_onto false tight.say) (graphic_value e.value tight.value) (graphic_properties tight.say tight.properties))

graphic_header : (es : PlainBaggage) → AllByRecursion IsTightEntry es → list_all is_graphic (spelled_header es) ≡ true
graphic_header [] tight = refl
graphic_header (e ∷ []) tight = graphic_member e tight.0
graphic_header (e ∷ f ∷ es) tight = all_append is_graphic (spelled_member e) (comma ∷ spelled_header (f ∷ es)) (graphic_member e tight.0) (graphic_header (f ∷ es) tight.1)

each : (bytes : List ℕ) → list_all is_graphic bytes ≡ true → All (λ b. is_graphic b ≡ true) bytes
each [] all = All-nil (λ b. is_graphic b ≡ true)
each (b ∷ bs) all = let parts = both_true (is_graphic b) (list_all is_graphic bs) all in All-cons (λ b. is_graphic b ≡ true) b bs parts.0 (each bs parts.1)

-- what is written of any baggage
pub written_is_graphic : (es : PlainBaggage) → All (λ b. is_graphic b ≡ true) (strict_header_of es)
unfolding strict_header_of
written_is_graphic es = each (spelled_header (written_entries es)) (graphic_header (written_entries es) (entries_tight es))
