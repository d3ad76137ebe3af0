-- One entry a name: each entry that is put in turn leaves the first place and the last word.
use Rattle.std.proofs.Common.{◌≡◌, ◌≢◌, ◌⊎◌, inl, inr, ℕ, true, false, not, List, [], ◌∷◌, ◌++◌, refl, sym, ap, ◌∙◌, ⊎_elim}
use Rattle.std.specs.Str.{bytes_eq}
use Rattle.std.proofs.lemmas.Bool.{cases_Bool, cond-true, cond-false, false_from_ne_true}
use Rattle.std.proofs.lemmas.Slice.Eq.{bytes_eq-Decides}
use Rattle.opentelemetry.specs.Baggage.{PlainBaggage, PlainBaggageEntry, with_entry, IsFreeName, HasDistinctNames}
use Rattle.otel_propagation.specs.BaggageHeader.{last_of_name, of_other_names, one_a_name}

same : (a b : List ℕ) → bytes_eq a b ≡ true → a ≡ b
same a b is = (bytes_eq-Decides a b).0 is

other : (a b : List ℕ) → bytes_eq a b ≡ false → a ≢ b
other a b is e = let yes : bytes_eq a b ≡ true = (bytes_eq-Decides a b).1 e in cc

is_same : (a b : List ℕ) → a ≡ b → bytes_eq a b ≡ true
is_same a b e = (bytes_eq-Decides a b).1 e

is_other : (a b : List ℕ) → a ≢ b → bytes_eq a b ≡ false
is_other a b apart = false_from_ne_true (bytes_eq a b) (λ is. apart (same a b is))

-- the last entry of a name has that name
last_key : (e : PlainBaggageEntry) (es : PlainBaggage) → (last_of_name e es).key ≡ e.key
last_key e [] = refl
last_key e (l ∷ more) =
    ⊎_elim
    (λ is. ap (λ (x : PlainBaggageEntry). x.key) (cond-true _ _ _ is) ∙ last_key l more ∙ sym (same e.key l.key is))
    (λ is. ap (λ (x : PlainBaggageEntry). x.key) (cond-false _ _ _ is) ∙ last_key e more)
    (cases_Bool (bytes_eq e.key l.key))

-- an entry of the name after the others is the last one
last_push_same : (e : PlainBaggageEntry) (es : PlainBaggage) (x : PlainBaggageEntry) → e.key ≡ x.key → last_of_name e (es ++ x ∷ []) ≡ x
last_push_same e [] x is = cond-true _ _ _ (is_same e.key x.key is)
last_push_same e (l ∷ more) x is =
    ⊎_elim
    (λ here. cond-true _ _ _ here ∙ last_push_same l more x (sym (same e.key l.key here) ∙ is))
    (λ here. cond-false _ _ _ here ∙ last_push_same e more x is)
    (cases_Bool (bytes_eq e.key l.key))

last_push_other : (e : PlainBaggageEntry) (es : PlainBaggage) (x : PlainBaggageEntry) → e.key ≢ x.key → last_of_name e (es ++ x ∷ []) ≡ last_of_name e es
last_push_other e [] x apart = cond-false _ _ _ (is_other e.key x.key apart)
last_push_other e (l ∷ more) x apart =
    ⊎_elim
    (λ here. cond-true _ _ _ here ∙ last_push_other l more x (λ is. apart (same e.key l.key here ∙ is)) ∙ sym (cond-true _ _ _ here))
    (λ here. cond-false _ _ _ here ∙ last_push_other e more x apart ∙ sym (cond-false _ _ _ here))
    (cases_Bool (bytes_eq e.key l.key))

-- an entry of this name is left out, and one of another name stays
same_name_left_out : (e y : PlainBaggageEntry) (es : PlainBaggage) → e.key ≡ y.key → of_other_names e (y ∷ es) ≡ of_other_names e es
same_name_left_out e y es is = cond-false _ _ _ (ap not (is_same e.key y.key is))

stays : (e y : PlainBaggageEntry) (es : PlainBaggage) → e.key ≢ y.key → of_other_names e (y ∷ es) ≡ y ∷ of_other_names e es
stays e y es apart = cond-true _ _ _ (ap not (is_other e.key y.key apart))

put_in_place : (y x : PlainBaggageEntry) (es : PlainBaggage) → x.key ≡ y.key → with_entry (y ∷ es) x ≡ x ∷ es
put_in_place y x es is = cond-true _ _ _ (is_same x.key y.key is)

put_after : (y x : PlainBaggageEntry) (es : PlainBaggage) → x.key ≢ y.key → with_entry (y ∷ es) x ≡ y ∷ with_entry es x
put_after y x es apart = cond-false _ _ _ (is_other x.key y.key apart)

others_with_same : (e x : PlainBaggageEntry) (es : PlainBaggage) → e.key ≡ x.key → of_other_names e (with_entry es x) ≡ of_other_names e es
others_with_same e x [] is = same_name_left_out e x [] is
others_with_same e x (y ∷ es) is =
    ⊎_elim
    (λ here. ap (of_other_names e) (cond-true _ _ _ here) ∙ same_name_left_out e x es is ∙ sym (same_name_left_out e y es (is ∙ same x.key y.key here)))
    (λ here. let apart = λ (e_y : e.key ≡ y.key). other x.key y.key here (sym is ∙ e_y) in
    ap (of_other_names e) (cond-false _ _ _ here) ∙ stays e y (with_entry es x) apart ∙ ap (λ l. y ∷ l) (others_with_same e x es is) ∙ sym (stays e y es apart))
    (cases_Bool (bytes_eq x.key y.key))

others_with_other : (e x : PlainBaggageEntry) (es : PlainBaggage) → e.key ≢ x.key → of_other_names e (with_entry es x) ≡ with_entry (of_other_names e es) x
others_with_other e x [] apart = stays e x [] apart
others_with_other e x (y ∷ es) apart =
    ⊎_elim
    (λ here. let is = same x.key y.key here in let apart_y = λ (e_y : e.key ≡ y.key). apart (e_y ∙ sym is) in
    ap (of_other_names e) (cond-true _ _ _ here) ∙ stays e x es apart ∙ sym (put_in_place y x (of_other_names e es) is)
    ∙ ap (λ l. with_entry l x) (sym (stays e y es apart_y)))
    (λ here. ap (of_other_names e) (cond-false _ _ _ here) ∙ after (others_with_other e x es apart) (other x.key y.key here) (cases_Bool (bytes_eq e.key y.key)))
    (cases_Bool (bytes_eq x.key y.key))
  where
    after : of_other_names e (with_entry es x) ≡ with_entry (of_other_names e es) x → x.key ≢ y.key → (bytes_eq e.key y.key ≡ true) ⊎ (bytes_eq e.key y.key ≡ false) → of_other_names e (y ∷ with_entry es x) ≡ with_entry (of_other_names e (y ∷ es)) x
    after rest apart_x (inl here) =
        let is = same e.key y.key here in
        same_name_left_out e y (with_entry es x) is ∙ rest ∙ ap (λ l. with_entry l x) (sym (same_name_left_out e y es is))
    after rest apart_x (inr here) =
        let apart_y = other e.key y.key here in
        stays e y (with_entry es x) apart_y ∙ ap (λ l. y ∷ l) rest
        ∙ sym (put_after y x (of_other_names e es) apart_x) ∙ ap (λ l. with_entry l x) (sym (stays e y es apart_y))

-- one entry more is put in the place of the one of its name, else last
pub one_a_name_push : (es : PlainBaggage) (x : PlainBaggageEntry) → one_a_name (es ++ x ∷ []) ≡ with_entry (one_a_name es) x
one_a_name_push [] x = refl
one_a_name_push (e ∷ es) x =
    ap (λ l. last_of_name e (es ++ x ∷ []) ∷ of_other_names e l) (one_a_name_push es x)
    ∙ ⊎_elim
    (λ here. let is = same e.key x.key here in
    (λ i. last_push_same e es x is i ∷ others_with_same e x (one_a_name es) is i)
    ∙ sym (put_in_place (last_of_name e es) x (of_other_names e (one_a_name es)) (sym is ∙ sym (last_key e es))))
    (λ here. let apart = other e.key x.key here in
    (λ i. last_push_other e es x apart i ∷ others_with_other e x (one_a_name es) apart i)
    ∙ sym (put_after (last_of_name e es) x (of_other_names e (one_a_name es)) (λ is. apart (sym (is ∙ last_key e es)))))
    (cases_Bool (bytes_eq e.key x.key))

last_free : (e : PlainBaggageEntry) (es : PlainBaggage) → IsFreeName e.key es → last_of_name e es ≡ e
last_free e [] free = refl
last_free e (l ∷ more) free = cond-false _ _ _ (is_other e.key l.key free.0) ∙ last_free e more free.1

others_free : (e : PlainBaggageEntry) (es : PlainBaggage) → IsFreeName e.key es → of_other_names e es ≡ es
others_free e [] free = refl
others_free e (y ∷ es) free = stays e y es free.0 ∙ ap (λ l. y ∷ l) (others_free e es free.1)

-- where each entry has a name of its own, all stand
pub one_a_name_distinct : (es : PlainBaggage) → HasDistinctNames es → one_a_name es ≡ es
one_a_name_distinct [] distinct = refl
one_a_name_distinct (e ∷ es) distinct =
    ap (λ l. last_of_name e es ∷ of_other_names e l) (one_a_name_distinct es distinct.1)
    ∙ (λ i. last_free e es distinct.0 i ∷ others_free e es distinct.0 i)
