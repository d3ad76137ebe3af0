-- The text of a number has no byte that stands by its number in HTML.
use Rattle.std.proofs.Common.{◌≡◌, ◌≢◌, ◌==◌, ◌||◌, ◌+◌, ◌∙◌, ℕ, suc, Bool, true, false, cond, List, [], ◌∷◌, ◌++◌}
use Rattle.std.proofs.Common.{Some, None, ap, ap₂, arith, drop, option_and_then, refl, subst, sym}
use Rattle.std.proofs.lemmas.Bool.{ne_eqb}
use Rattle.std.specs.Char.{is_ascii_digit}
use Rattle.std.specs.List.{AllByRecursion, prefix_len}
use Rattle.std.specs.Prelude.{Option}
use Rattle.json.specs.Print.{IsNumber}
use Rattle.json.specs.Word.{after_digits, after_exponent, after_fraction, after_minus, after_number, after_sign}
use Rattle.json.specs.Word.{after_whole, head}
use Rattle.otel_picture.specs.HtmlTexts.{safe_byte, safe_bytes}

-- a byte that stands as it is
abbrev pub Unmarked : ℕ → Type 0
Unmarked x = (x ≢ 60) × (x ≢ 62) × (x ≢ 38)

abbrev AreUnmarked : List ℕ → Type 0
AreUnmarked bytes = AllByRecursion Unmarked bytes

pub unmarked_stands : (x : ℕ) → Unmarked x → safe_byte x ≡ x ∷ []
unmarked_stands x h = rw (ne_eqb x 60 h.0, ne_eqb x 62 h.1, ne_eqb x 38 h.2)

all_stand : (bytes : List ℕ) → AreUnmarked bytes → safe_bytes bytes ≡ bytes
all_stand [] h = refl
all_stand (x ∷ bytes) h = ap₂ (λ (a b : List ℕ). a ++ b) (unmarked_stands x h.0) (all_stand bytes h.1)

-- a test that the marks fail
apart : (p : ℕ → Bool) (x mark : ℕ) → p x ≡ true → p mark ≡ false → x ≢ mark
apart p x mark h k e = let no : false ≡ true = sym k ∙ ap p (sym e) ∙ h in cc

tested : (p : ℕ → Bool) → p 60 ≡ false → p 62 ≡ false → p 38 ≡ false → (x : ℕ) → p x ≡ true → Unmarked x
tested p a b c x h = (apart p x 60 h a, apart p x 62 h b, apart p x 38 h c)

-- where what is left has no marks, the whole has none
abbrev Keeps : Option (List ℕ) → List ℕ → Type 0
Keeps None t = Unit {0}
Keeps (Some rest) t = AreUnmarked rest → AreUnmarked t

through : (o : Option (List ℕ)) (u t : List ℕ) → (AreUnmarked u → AreUnmarked t) → Keeps o u → Keeps o t
through None u t h k = tt
through (Some rest) u t h k = λ r. h (k r)

chain : (f : List ℕ → Option (List ℕ)) (o : Option (List ℕ)) (t : List ℕ) → Keeps o t
    → ((u : List ℕ) → Keeps (f u) u) → Keeps (option_and_then f o) t
chain f None t h k = tt
chain f (Some u) t h k = through (f u) u t h (k u)

skipped : (p : ℕ → Bool) → p 60 ≡ false → p 62 ≡ false → p 38 ≡ false → (t : List ℕ)
    → AreUnmarked (cond (p (head t)) (drop 1 t) t) → AreUnmarked t
skipped p a b c [] h = tt
skipped p a b c (x ∷ t) h = go (p x) refl h
  where
    go : (q : Bool) → p x ≡ q → AreUnmarked (cond q (drop 1 (x ∷ t)) (x ∷ t)) → AreUnmarked (x ∷ t)
    go true e h = (tested p a b c x e, h)
    go false e h = h

digits : (t : List ℕ) → AreUnmarked (drop (prefix_len is_ascii_digit t) t) → AreUnmarked t
digits [] h = tt
digits (x ∷ t) h = go (digits t) (is_ascii_digit x) refl h
  where
    go : (AreUnmarked (drop (prefix_len is_ascii_digit t) t) → AreUnmarked t) → (q : Bool) → is_ascii_digit x ≡ q
        → AreUnmarked (drop (cond q (1 + prefix_len is_ascii_digit t) 0) (x ∷ t)) → AreUnmarked (x ∷ t)
    go more true e h =
        let next : 1 + prefix_len is_ascii_digit t ≡ suc (prefix_len is_ascii_digit t) = omega arith in (
          tested is_ascii_digit refl refl refl x e,
          more (subst (λ (n : ℕ). AreUnmarked (drop n (x ∷ t))) next h),
        )
    go more false e h = h

digits_keep : (t : List ℕ) → Keeps (after_digits t) t
digits_keep t = go (prefix_len is_ascii_digit t == 0)
  where
    go : (q : Bool) → Keeps (cond q None (Some (drop (prefix_len is_ascii_digit t) t))) t
    go true = tt
    go false = digits t

whole_keeps : (t : List ℕ) → Keeps (after_whole t) t
whole_keeps [] = tt
whole_keeps (x ∷ t) = go (x == 48) refl
  where
    go : (q : Bool) → (x == 48) ≡ q → Keeps (cond q (Some (drop 1 (x ∷ t))) (after_digits (x ∷ t))) (x ∷ t)
    go true e = λ h. (tested (λ y. y == 48) refl refl refl x e, h)
    go false e = digits_keep (x ∷ t)

fraction_keeps : (t : List ℕ) → Keeps (after_fraction t) t
fraction_keeps [] = λ h. h
fraction_keeps (x ∷ t) = go (x == 46) refl
  where
    go : (q : Bool) → (x == 46) ≡ q → Keeps (cond q (after_digits (drop 1 (x ∷ t))) (Some (x ∷ t))) (x ∷ t)
    go true e =
        through (after_digits t) t (x ∷ t) (λ h. (tested (λ y. y == 46) refl refl refl x e, h)) (digits_keep t)
    go false e = λ h. h

abbrev is_exponent : ℕ → Bool
is_exponent y = (y == 101) || (y == 69)

abbrev is_sign : ℕ → Bool
is_sign y = (y == 45) || (y == 43)

exponent_keeps : (t : List ℕ) → Keeps (after_exponent t) t
exponent_keeps [] = λ h. h
exponent_keeps (x ∷ t) = go (is_exponent x) refl
  where
    go : (q : Bool) → is_exponent x ≡ q
        → Keeps (cond q (after_digits (after_sign (drop 1 (x ∷ t)))) (Some (x ∷ t))) (x ∷ t)
    go true e =
        through (after_digits (after_sign t)) (after_sign t) (x ∷ t)
        (λ h. (tested is_exponent refl refl refl x e, skipped is_sign refl refl refl t h)) (digits_keep (after_sign t))
    go false e = λ h. h

number_keeps : (t : List ℕ) → Keeps (after_number t) t
unfolding after_number
number_keeps t =
    let bare = after_minus t in
    let whole =
    through (after_whole bare) bare t (skipped (λ y. y == 45) refl refl refl t) (whole_keeps bare) in
    chain after_exponent (option_and_then after_fraction (after_whole bare)) t
    (chain after_fraction (after_whole bare) t whole fraction_keeps) exponent_keeps

pub number_stands : (s : List ℕ) → IsNumber s → safe_bytes s ≡ s
number_stands s h = all_stand s (subst (λ (o : Option (List ℕ)). Keeps o s) h (number_keeps s) tt)
