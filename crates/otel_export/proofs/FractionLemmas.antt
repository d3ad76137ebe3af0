-- The digits of a fraction, one at a time, without the zeros at their end.
use Rattle.std.proofs.Common.{◌≡◌, ℕ, zero, suc, ◌+◌, ◌*◌, ◌/◌, ◌%◌, ◌^◌, ◌<◌, ◌⊎◌, inl, inr, List, [], ◌∷◌, ◌++◌, refl, sym, ap, subst, ◌∙◌, arith, ne_eqb, append_assoc}
use Rattle.std.proofs.Math.Nat.{pow-suc, zero-div, zero-mod, div-add-mod, mul-zero, div-lt_iff_lt-mul}
use Rattle.otel_export.specs.ErrorText.{padded_digits, without_trailing_zeros, in_front}

pub positive_power : (k : ℕ) → 0 < 10 ^ k
positive_power zero = omega arith
positive_power (suc k) = omega (arith, pow-suc 10 k, positive_power k)

-- the digits that count
abbrev pub significant : ℕ → ℕ → List ℕ
significant k n = without_trailing_zeros (padded_digits k n)

-- of nothing no digit counts
pub significant-zero : (k : ℕ) → significant k 0 ≡ []
unfolding padded_digits without_trailing_zeros
significant-zero zero = refl
significant-zero (suc k) = rw (zero-div (10 ^ k), zero-mod (10 ^ k), significant-zero k)

none_or_some : (n : ℕ) → (n ≡ 0) ⊎ (0 < n)
none_or_some zero = inl refl
none_or_some (suc n) = inr (omega arith)

whole_by : (n p : ℕ) → n % p ≡ 0 → 0 < n → (n / p ≡ 0) ⊎ (0 < n / p) → 0 < n / p
whole_by n p e g (inr h) = h
whole_by n p e g (inl h) =
    let whole : p * (n / p) + n % p ≡ n = div-add-mod n p in
    let none : p * (n / p) ≡ 0 = ap (λ d. p * d) h ∙ mul-zero p in
    absurd (omega arith)

digit_stays : (d : ℕ) (ds : List ℕ) → 0 < d → in_front (48 + d) ds ≡ (48 + d) ∷ ds
digit_stays d [] h = rw (ne_eqb (48 + d) 48 (λ e. omega arith))
digit_stays d (e ∷ es) h = refl

in_front_some : (d e : ℕ) (ds es : List ℕ) → ds ≡ e ∷ es → in_front d ds ≡ d ∷ ds
in_front_some d e ds es h = rw h refl

first_counts : (k n : ℕ) → (0 < n % 10 ^ k → (d : ℕ) × (ds : List ℕ) × (significant k (n % 10 ^ k) ≡ d ∷ ds)) → (n % 10 ^ k ≡ 0) ⊎ (0 < n % 10 ^ k) → 0 < n
    → in_front (48 + n / 10 ^ k) (significant k (n % 10 ^ k)) ≡ (48 + n / 10 ^ k) ∷ significant k (n % 10 ^ k)
first_counts k n rest (inl none) some = digit_stays _ _ (whole_by n (10 ^ k) none some (none_or_some _))
first_counts k n rest (inr more) some = let (d, ds, is) = rest more in in_front_some _ _ _ _ is

-- where something is left, its first digit counts
pub significant-suc : (k n : ℕ) → 0 < n → significant (suc k) n ≡ (48 + n / 10 ^ k) ∷ significant k (n % 10 ^ k)
unfolding padded_digits without_trailing_zeros
significant-suc zero n some = first_counts zero n (λ more. absurd (omega arith)) (none_or_some _) some
significant-suc (suc k) n some = first_counts (suc k) n (λ more. (_, _, significant-suc k (n % 10 ^ suc k) more)) (none_or_some _) some

-- what a place is while something is left: a tenth of it is the next one
pub record NextPlace (k place left : ℕ) : Type 0 where
  pub next : ℕ
  pub is : k ≡ suc next
  pub power : place / 10 ≡ 10 ^ next
  pub positive : 0 < place / 10
  pub digit : left / (place / 10) < 10

small_digit : (n p : ℕ) → 0 < p → n < 10 * p → n / p < 10
small_digit n p h s = (div-lt_iff_lt-mul h).1 s

pub next_place : (k place left : ℕ) → place ≡ 10 ^ k → left < place → 0 < left → NextPlace k place left
next_place zero place left e below some = absurd (omega arith)
next_place (suc j) place left e below some =
    let times : 10 ^ suc j ≡ 10 * 10 ^ j = omega (arith, pow-suc 10 j) in
    let power : place / 10 ≡ 10 ^ j = omega arith in
    let positive : 0 < place / 10 = subst (λ n. 0 < n) (sym power) (positive_power j) in
    record {
      next = j;
      is = refl;
      power = power;
      positive = positive;
      digit = small_digit left (place / 10) positive (omega arith);
    }

-- one more digit is written
pub digit_written : (k left place : ℕ) (done : List ℕ) (whole : List ℕ) (n : NextPlace k (place) left) → 0 < left → done ++ significant k left ≡ whole
    → (done ++ (48 + left / (place / 10)) ∷ []) ++ significant n.next (left % (place / 10)) ≡ whole
digit_written k left place done whole n some is =
    append_assoc done _ _ ∙ ap (λ t. done ++ t) (ap (λ p. (48 + left / p) ∷ significant n.next (left % p)) n.power ∙ sym (significant-suc n.next left some) ∙ ap (λ j. significant j left) (sym n.is)) ∙ is
