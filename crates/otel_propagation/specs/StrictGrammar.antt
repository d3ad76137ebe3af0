-- The grammar of the header `baggage`, as the standard states it (W3C Baggage, section 3.3.1): which texts are headers,
-- and the entries that they spell. Neither the reader nor the writer is named here.
use Rattle.std.specs.Prelude.{◌≡◌, ◌≤◌, ℕ, Bool, true, not, ◌&&◌, ◌||◌, ◌==◌, nat_le, List, [], ◌∷◌, ◌++◌, length}
use Rattle.std.specs.List.{filter, join_with_byte, list_all}
use Rattle.opentelemetry.specs.Baggage.{PlainBaggage, PlainBaggageEntry}
use Rattle.opentelemetry.specs.Members.{comma, equals_sign, semicolon}
use Rattle.opentelemetry.specs.Tracestate.{is_blank, is_some_text}

-- a byte is one from the first to the last
abbrev pub is_within : ℕ → ℕ → ℕ → Bool
is_within first last b = nat_le first b && nat_le b last

-- a byte of a token (RFC 7230, section 3.2.6): a digit, a letter, or one of !#$%&'*+-.^_`|~
unfoldable pub is_token_byte : ℕ → Bool
is_token_byte b =
    is_within 48 57 b || (is_within 65 90 b || (is_within 94 122 b || (b == 33 || (is_within 35 39 b
    || (is_within 42 43 b || (is_within 45 46 b || (b == 124 || b == 126)))))))

-- baggage-octet = %x21 / %x23-2B / %x2D-3A / %x3C-5B / %x5D-7E
unfoldable pub is_octet : ℕ → Bool
is_octet b = b == 33 || (is_within 35 43 b || (is_within 45 58 b || (is_within 60 91 b || is_within 93 126 b)))

-- key = token, a byte of a token or more
abbrev pub is_token : List ℕ → Bool
is_token text = is_some_text text && list_all is_token_byte text

-- value = *baggage-octet
abbrev pub are_octets : List ℕ → Bool
are_octets text = list_all is_octet text

-- OWS = *( SP / HTAB )
abbrev pub IsOptionalSpace : List ℕ → Type 0
IsOptionalSpace text = list_all is_blank text ≡ true

-- a text without its spaces and tabs
abbrev pub without_blanks : List ℕ → List ℕ
without_blanks text = filter (λ b. not (is_blank b)) text

-- property = key OWS "=" OWS value / key OWS, and what it says: itself without the optional white space
pub data IsProperty : List ℕ → List ℕ → Type 0 where
  key_alone : (key space : List ℕ) → is_token key ≡ true → IsOptionalSpace space → IsProperty (key ++ space) key
  key_and_value : (key before after value : List ℕ) → is_token key ≡ true → IsOptionalSpace before
      → IsOptionalSpace after → are_octets value ≡ true
      → IsProperty (key ++ (before ++ equals_sign ∷ (after ++ value))) (key ++ equals_sign ∷ value)

-- *( OWS ";" OWS property ), and what each property says
pub data AreProperties : List ℕ → List (List ℕ) → Type 0 where
  no_property : AreProperties [] []
  next_property : (before after property says rest : List ℕ) (others : List (List ℕ)) → IsOptionalSpace before
      → IsOptionalSpace after → IsProperty property says → AreProperties rest others
      → AreProperties (before ++ semicolon ∷ (after ++ (property ++ rest))) (says ∷ others)

-- list-member = key OWS "=" OWS value *( OWS ";" OWS property ), and the entry that it spells
pub record IsListMember (text : List ℕ) (e : PlainBaggageEntry) : Type 0 where
  pub before : List ℕ
  pub after : List ℕ
  pub properties : List ℕ
  pub say : List (List ℕ)
  pub key : is_token e.key ≡ true
  pub before_is : IsOptionalSpace before
  pub after_is : IsOptionalSpace after
  pub value : are_octets e.value ≡ true
  pub properties_are : AreProperties properties say
  pub metadata : e.metadata ≡ join_with_byte semicolon say
  pub spelled : text ≡ e.key ++ (before ++ equals_sign ∷ (after ++ (e.value ++ properties)))

-- list-member *( OWS "," OWS list-member ), and the entries that they spell
pub data AreListMembers : List ℕ → PlainBaggage → Type 0 where
  last_member : (text : List ℕ) (e : PlainBaggageEntry) → IsListMember text e → AreListMembers text (e ∷ [])
  next_member : (text before after rest : List ℕ) (e : PlainBaggageEntry) (es : PlainBaggage) → IsListMember text e
      → IsOptionalSpace before → IsOptionalSpace after → AreListMembers rest es
      → AreListMembers (text ++ (before ++ comma ∷ (after ++ rest))) (e ∷ es)

-- baggage-string = list-member 0*179( OWS "," OWS list-member ): a text is a header that spells these entries
pub record IsBaggageHeader (text : List ℕ) (es : PlainBaggage) : Type 0 where
  pub members : AreListMembers text es
  pub few : length es ≤ 180
