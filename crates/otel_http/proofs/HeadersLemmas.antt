-- Facts on headers as carriers of texts.
use Rattle.std.proofs.Common.{◌≡◌, ◌≢◌, ◌⊎◌, ℕ, ◌<◌, ◌≤◌, Bool, true, List, [], ◌∷◌, ◌++◌, length, map, filter, Contains, All, Option, Some, None, MatchOption, IsTrue, IsSome, is_some, refl, sym, ap, ◌∙◌, inl, inr, arith, subst, string_bytes, option_map, Bor, Result, Ok, Err, IfOk}
use Rattle.std.proofs.lemmas.Bool.{cases_Bool}
use Rattle.std.proofs.lemmas.List.{get_or-map, length-map}
use Rattle.std.proofs.lemmas.List.Elements.{All-cons, All-nil, All-pop, All-push, Contains-append_cases, Contains-push_cases}
use Rattle.http_header.specs.HeaderMap.{get_all, index_of, insert, keys}
use Rattle.http_header.specs.FieldValue.{FieldValue, plain_value}
use Rattle.http_header.specs.Places.{IsAbsent, IsAt}
use Rattle.http_header.specs.Token.{lowercase}
use Rattle.http_header.proofs.HeaderMapLemmas.{get_all-insert_other, get_all-insert_same}
use Rattle.http_header.proofs.PlacesLemmas.{ContainsKey-from_entry, index_of_cases}
use Rattle.http_header.proofs.TokenLemmas.{lowercase-lowercase_lem}
use Rattle.opentelemetry.specs.Carrier.{HasName, SetsText}
use Rattle.otel_http.specs.Fields.{fields_text, is_field_content, repeated_text}
use Rattle.otel_http.specs.Headers.{Headers, header_texts, text_names}
use Rattle.otel_http.specs.Extraction.{AreRepeated, IsSaid}
use Rattle.otel_http.specs.declared.header_extractor.Repeated.{Repeated}
use Rattle.otel_http.proofs.FieldsLemmas.{content_visible, not_both, shown_single}

-- a text that is set is read back, and other names carry what they did
pub text_is_set : (headers : Headers) (name text : List ℕ) → is_field_content text ≡ true
    → SetsText (header_texts headers) (header_texts (insert headers (lowercase name) (plain_value text))) name text
text_is_set headers name text content = record {
  set =
      ap (fields_text (lowercase name)) (get_all-insert_same headers (lowercase name) (plain_value text))
      ∙ shown_single (plain_value text) (content_visible text content);
  others = λ other differs.
      ap (fields_text (lowercase other))
      (get_all-insert_other headers (lowercase name) (lowercase other) (plain_value text) (λ e. differs (sym e)));
}

-- a name has no field, or it is one of the names
pub absent_or_key : (headers : Headers) (name : List ℕ) → (get_all headers name ≡ []) ⊎ Contains (keys headers) name
absent_or_key headers name = by (index_of headers name) (index_of_cases headers name)
  where
    by : (o : Option ℕ) → MatchOption o (IsAbsent headers name) (IsAt headers name)
        → (get_all headers name ≡ []) ⊎ Contains (keys headers) name
    by None absent = inl absent.values
    by (Some i) at = inr (ContainsKey-from_entry headers name i at.within at.key)

-- what is known of the names so far
pub record AreRepeatedSoFar (headers : Headers) (names : List (List ℕ)) (repeated : List Repeated) : Type 0 where
  pub said : All (IsSaid headers) repeated
  pub complete : (name : List ℕ) → Contains names name → All (λ field. field.name.now ≢ name) repeated
      → length (get_all headers name) ≤ 1

-- one more name that has several fields
pub repeated_more : (headers : Headers) (names : List (List ℕ)) (repeated : List Repeated) (field : Repeated)
    → AreRepeatedSoFar headers names repeated → IsSaid headers field
    → AreRepeatedSoFar headers (names ++ field.name.now ∷ []) (repeated ++ field ∷ [])
repeated_more headers names repeated field so_far is = record {
  said = All-push (IsSaid headers) repeated field so_far.said is;
  complete = λ name among none.
      let parts = All-pop (λ x. x.name.now ≢ name) (repeated ++ field ∷ []) repeated (Some field) refl none in
      elim (Contains-push_cases names field.name.now name among) [
        | inl earlier ↦ so_far.complete name earlier parts.0
        | inr last ↦ absurd (parts.1 last)
      ];
}

-- one more name that has one field at most
pub repeated_same : (headers : Headers) (names : List (List ℕ)) (repeated : List Repeated) (name : List ℕ)
    → AreRepeatedSoFar headers names repeated → length (get_all headers name) ≤ 1
    → AreRepeatedSoFar headers (names ++ name ∷ []) repeated
repeated_same headers names repeated name so_far few = record {
  said = so_far.said;
  complete = λ other among none.
      elim (Contains-push_cases names name other among) [
        | inl earlier ↦ so_far.complete other earlier none
        | inr last ↦ subst (λ n. length (get_all headers n) ≤ 1) last few
      ];
}

-- all names
pub all_repeated : (headers : Headers) (repeated : List Repeated) → AreRepeatedSoFar headers (keys headers) repeated
    → AreRepeated headers repeated
all_repeated headers repeated so_far = record {
  said = so_far.said;
  complete = λ name none.
      elim (absent_or_key headers name) [
        | inl absent ↦ let count = ap length absent in omega arith
        | inr among ↦ so_far.complete name among none
      ];
}

-- several values say what is said of repeated ones
repeated_says : (name : List ℕ) (values : List FieldValue) → 1 < length values → repeated_text name values ≡ fields_text name values
repeated_says name [] several = absurd (omega arith)
repeated_says name (v ∷ []) several = absurd (omega arith)
repeated_says name (v ∷ w ∷ more) several = refl

-- one more name is known
pub repeated_pushed : (headers : Headers) (names all : List (List ℕ)) (repeated after : List Repeated) (field : Repeated)
    → AreRepeatedSoFar headers names repeated → all ≡ names ++ field.name.now ∷ [] → after ≡ repeated ++ field ∷ []
    → 1 < length (get_all headers field.name.now)
    → option_map (λ text. string_bytes text) field.text ≡ repeated_text field.name.now (get_all headers field.name.now)
    → AreRepeatedSoFar headers all after
repeated_pushed headers names all repeated after field so_far names_are are several text =
    rw (names_are, are)
    (repeated_more headers names repeated field so_far (text ∙ repeated_says field.name.now (get_all headers field.name.now) several))

-- all names were looked at
pub repeated_end : (headers : Headers) (names : List (List ℕ)) (repeated : List Repeated)
    → AreRepeatedSoFar headers names repeated → names ≡ keys headers → AreRepeated headers repeated
repeated_end headers names repeated so_far are = all_repeated headers repeated (rw (← are) so_far)

-- what a filter keeps passes its test
kept_pass : (p : List ℕ → Bool) (names : List (List ℕ)) → All (λ name. IsTrue (p name)) (filter p names)
kept_pass p [] = All-nil (λ name. IsTrue (p name))
kept_pass p (name ∷ names) =
    elim (cases_Bool (p name)) [
      | inl t ↦ rw t (All-cons (λ other. IsTrue (p other)) name (filter p names) t (kept_pass p names))
      | inr f ↦ rw f (kept_pass p names)
    ]

-- references to the names that carry a text: each can be read
pub names_read : (headers : Headers) (names : List (Bor (List ℕ))) → map (λ name. name.now) names ≡ text_names headers
    → All (λ name. IsSome (header_texts headers name.now)) names
names_read headers names are = λ i d within.
    let same = get_or-map (λ (name : Bor (List ℕ)). name.now) names i d d.now within in
    let kept : All (λ name. IsTrue (is_some (header_texts headers name))) (map (λ name. name.now) names) =
    rw are (kept_pass (λ name. is_some (header_texts headers name)) (keys headers)) in
    subst (λ name. IsSome (header_texts headers name)) same (kept i d.now (omega (arith, length-map names (λ (name : Bor (List ℕ)). name.now))))

-- a name that a filter keeps
has_kept : (p : List ℕ → Bool) (names : List (List ℕ)) (kept name : List ℕ) → Contains names kept → IsTrue (p kept)
    → lowercase kept ≡ lowercase name → HasName name (filter p names)
has_kept p [] kept name among passes same = absurd (omega (arith, among.1))
has_kept p (other ∷ names) kept name among passes same =
    elim (Contains-append_cases (other ∷ []) names kept among) [
      | inl first ↦ elim (Contains-push_cases [] other kept first) [
        | inl none ↦ absurd (omega (arith, none.1))
        | inr is ↦ let t : p other ≡ true = rw is passes in rw t (inl (ap lowercase is ∙ same))
      ]
      | inr later ↦ elim (cases_Bool (p other)) [
        | inl t ↦ rw t (inr (has_kept p names kept name later passes same))
        | inr f ↦ rw f (has_kept p names kept name later passes same)
      ]
    ]

-- each name that carries a text is listed
pub names_complete : (headers : Headers) (name : List ℕ) → IsSome (header_texts headers name) → HasName name (text_names headers)
names_complete headers name some =
    let lower = lowercase-lowercase_lem name in
    elim (absent_or_key headers (lowercase name)) [
      | inl absent ↦ absurd (not_both (sym (ap (λ values. is_some (fields_text (lowercase name) values)) absent) ∙ some))
      | inr among ↦
          has_kept (λ n. is_some (header_texts headers n)) (keys headers) (lowercase name) name among
          (ap (λ n. is_some (fields_text n (get_all headers n))) lower ∙ some) lower
    ]

-- the same of an answer with such references
pub answer_read : {V E : Type 0} (items : V → List (Bor (List ℕ))) (headers seen : Headers) (result : Result V E)
    → headers ≡ seen → IfOk result (λ names. map (λ name. name.now) (items names) ≡ text_names headers)
    → IfOk result (λ names. All (λ name. IsSome (header_texts seen name.now)) (items names))
answer_read items headers seen (Ok names) same are = rw (← same) (names_read headers (items names) are)
answer_read items headers seen (Err error) same are = tt
