-- Facts on what fields say.
use Rattle.std.proofs.Common.{◌≡◌, ℕ, ◌≤◌, Bool, true, false, ◌&&◌, cond, List, [], ◌∷◌, ◌++◌, ◌-◌, length, map, slice_get, nat_eq, Some, None, IsTrue, refl, sym, ap, ◌∙◌, inl, inr, arith, append_assoc, append-nil}
use Rattle.std.specs.List.{join_with_byte, list_all}
use Rattle.std.proofs.lemmas.Bool.{and_parts, cases_Bool}
use Rattle.std.proofs.lemmas.Bool.Decides.{Decides-by_and, nat_tests}
use Rattle.std.proofs.lemmas.List.{length-map, map-append}
use Rattle.std.proofs.lemmas.List.Folds.{list_all-append}
use borrow.Author.Tests.{lt-ltb}
use Rattle.http_header.specs.FieldValue.{FieldValue, IsVisibleAscii, is_visible_text}
use Rattle.http_header.specs.Token.{is_visible_or_blank}
use Rattle.opentelemetry.specs.Members.{comma}
use Rattle.opentelemetry.proofs.Joins as Texts
use Rattle.opentelemetry.proofs.Joins.{join_push}
use Rattle.otel_http.specs.Fields.{fields_text, is_field_content, is_no_blank, is_visible, joined, joined_text}

-- the test of visible bytes holds where they are visible
pub visible_true : (bytes : List ℕ) → IsVisibleAscii bytes → is_visible_text bytes ≡ true
visible_true =
    λ bytes h. (Decides-by_and is_visible_or_blank (λ b. IsTrue (is_visible_or_blank b)) is_visible_text (λ b. (λ h. h, λ h. h)) refl (λ _ _. refl) bytes).1 h

pub visible_from : (bytes : List ℕ) → is_visible_text bytes ≡ true → IsVisibleAscii bytes
visible_from =
    λ bytes h. (Decides-by_and is_visible_or_blank (λ b. IsTrue (is_visible_or_blank b)) is_visible_text (λ b. (λ h. h, λ h. h)) refl (λ _ _. refl) bytes).0 h

pub visible_false : (bytes : List ℕ) → ¬ (IsVisibleAscii bytes) → is_visible_text bytes ≡ false
visible_false bytes n = elim (cases_Bool (is_visible_text bytes)) [ inl t ↦ absurd (n (visible_from bytes t)) | inr f ↦ f ]

-- one value says itself
pub shown_single : (v : FieldValue) → IsVisibleAscii v.bytes → joined_text (v ∷ []) ≡ Some v.bytes
shown_single v h = rw (visible_true v.bytes h) refl

pub hidden_single : (v : FieldValue) → ¬ (IsVisibleAscii v.bytes) → joined_text (v ∷ []) ≡ None
hidden_single v n = rw (visible_false v.bytes n) refl

-- where there is one value at most, the first one says all
pub single_said : (name : List ℕ) (values : List FieldValue) (v : FieldValue) → length values ≤ 1
    → slice_get values 0 ≡ Some v → fields_text name values ≡ joined_text (v ∷ [])
single_said name [] v n is = cc
single_said name (w ∷ []) v n is = let same : w ≡ v = cc in ap (λ x. joined_text (x ∷ [])) same
single_said name (w ∷ x ∷ more) v n is = absurd (omega arith)

-- one more value after others
joined_push : (values : List FieldValue) (v : FieldValue)
    → joined (values ++ v ∷ []) ≡ joined values ++ Texts.joined_text comma (length values) v.bytes
joined_push values v =
    ap (join_with_byte comma) (map-append (λ (value : FieldValue). value.bytes) values (v ∷ []))
    ∙ join_push comma (map (λ value. value.bytes) values) v.bytes
    ∙ ap (λ n. joined values ++ Texts.joined_text comma n v.bytes) (length-map values (λ value. value.bytes))

pub joined_first : (values : List FieldValue) (v : FieldValue) → nat_eq (length values) 0 ≡ true
    → joined (values ++ v ∷ []) ≡ joined values ++ v.bytes
joined_first [] v is = refl
joined_first (w ∷ values) v is = absurd (grind (arith, nat_tests))

pub joined_later : (values : List FieldValue) (v : FieldValue) → nat_eq (length values) 0 ≡ false
    → joined (values ++ v ∷ []) ≡ (joined values ++ comma ∷ []) ++ v.bytes
joined_later [] v is = absurd (cc)
joined_later (w ∷ values) v is =
    joined_push (w ∷ values) v
    ∙ ap (λ b. joined (w ∷ values) ++ cond b (comma ∷ v.bytes) v.bytes) (lt-ltb 0 (length (w ∷ values)) (omega arith))
    ∙ sym (append_assoc (joined (w ∷ values)) (comma ∷ []) v.bytes)

-- the text of values that are all visible
pub joined_visible : (values : List FieldValue) → list_all is_visible values ≡ true → joined_text values ≡ Some (joined values)
joined_visible values h = rw h refl

pub visible_push : (values : List FieldValue) (v : FieldValue) → list_all is_visible values ≡ true → IsVisibleAscii v.bytes
    → list_all is_visible (values ++ v ∷ []) ≡ true
visible_push values v h shown = rw (list_all-append is_visible values (v ∷ []), h, visible_true v.bytes shown) refl

-- one value that is not visible hides all
pub joined_hidden : (values : List FieldValue) (v : FieldValue) (rest : List FieldValue) → ¬ (IsVisibleAscii v.bytes)
    → joined_text (values ++ v ∷ rest) ≡ None
joined_hidden values v rest hidden =
    let is : list_all is_visible (values ++ v ∷ rest) ≡ false =
    rw (list_all-append is_visible values (v ∷ rest), visible_false v.bytes hidden) (and_false (list_all is_visible values)) in
    rw is refl
  where
    and_false : (b : Bool) → (b && false) ≡ false
    and_false true = refl
    and_false false = refl

pub not_both : false ≡ true → ⊥
not_both e = cc

pub nat_eq-push : {X : Type 0} (xs : List X) (x : X) → nat_eq (length (xs ++ x ∷ [])) 0 ≡ false
nat_eq-push [] x = refl
nat_eq-push (y ∷ xs) x = grind (arith, nat_tests)

-- the first of what is left goes to what was yielded
pub more_left : {X : Type 0} (xs : List X) (x : X) (left old all : List X) → old ≡ x ∷ left → xs ++ old ≡ all
    → (xs ++ x ∷ []) ++ left ≡ all
more_left xs x left old all steps is = append_assoc xs (x ∷ []) left ∙ ap (λ more. xs ++ more) (sym steps) ∙ is

-- where nothing is left all was yielded
pub nothing_left : {X : Type 0} (xs left all : List X) → left ≡ [] → xs ++ left ≡ all → xs ≡ all
nothing_left xs left all none is = sym (append-nil xs) ∙ ap (λ more. xs ++ more) (sym none) ∙ is

pub content_visible : (text : List ℕ) → is_field_content text ≡ true → IsVisibleAscii text
content_visible text h =
    visible_from text (and_parts _ _ (and_parts (is_no_blank (slice_get text 0)) (is_no_blank (slice_get text (length text - 1)) && is_visible_text text) h).1).1
