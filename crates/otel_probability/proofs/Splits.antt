-- What is joined by semicolons is cut at them into the same members.
use Rattle.std.proofs.Common.{◌≡◌, ℕ, zero, suc, ◌/◌, ◌%◌, ◌<◌, List, [], ◌∷◌, ◌++◌, Bool, true, false, cond, eqb, ⊎_elim, refl, sym, ap, ◌∙◌, subst, arith}
use Rattle.std.proofs.lemmas.Bool.Decides.{nat_tests}
use Rattle.std.proofs.lemmas.List.Elements.{All-nil, All-cons}
use Rattle.std.proofs.lemmas.List.Splits.{slice_split_none, slice_split_at, slice_split-cons_yes, slice_split-cons_no}
use Rattle.std.specs.List.{All, filter, join_with_byte, onto_first}
use Rattle.opentelemetry.specs.Hex.{hex_digit, hex_text}
use Rattle.otel_probability.specs.Entry.{entry_members, stays}
use Rattle.otel_probability.specs.Numbers.{short_hex}
use Rattle.otel_probability.proofs.Digits.{true_or_false}

-- a text without a semicolon
abbrev pub IsClean : List ℕ → Type 0
IsClean [] = Unit {0}
IsClean (b ∷ bs) = (eqb b 59 ≡ false) × IsClean bs

abbrev pub AreClean : List (List ℕ) → Type 0
AreClean [] = Unit {0}
AreClean (m ∷ ms) = IsClean m × AreClean ms

clean_all : (m : List ℕ) → IsClean m → All (λ b. eqb b 59 ≡ false) m
clean_all [] clean = All-nil (λ b. eqb b 59 ≡ false)
clean_all (b ∷ m) clean = All-cons (λ b. eqb b 59 ≡ false) b m clean.0 (clean_all m clean.1)

clean_onto_first : (b : ℕ) (ms : List (List ℕ)) → eqb b 59 ≡ false → AreClean ms → AreClean (onto_first b ms)
clean_onto_first b [] other clean = ((other, tt), tt)
clean_onto_first b (m ∷ ms) other clean = ((other, clean.0), clean.1)

-- the members of an entry have none
pub members_clean : (entry : List ℕ) → AreClean (entry_members entry)
members_clean [] = (tt, tt)
members_clean (b ∷ entry) =
    ⊎_elim
    (λ mark. subst AreClean (sym (slice_split-cons_yes (λ b. eqb b 59) b entry mark)) (tt, members_clean entry))
    (λ other. subst AreClean (sym (slice_split-cons_no (λ b. eqb b 59) b entry other)) (clean_onto_first b (entry_members entry) other (members_clean entry)))
    (true_or_false (eqb b 59))

kept_clean : (b : Bool) (m : List ℕ) (ms : List (List ℕ)) → IsClean m → AreClean ms → AreClean (cond b (m ∷ ms) ms)
kept_clean true m ms this others = (this, others)
kept_clean false m ms this others = others

pub filter_clean : (ms : List (List ℕ)) → AreClean ms → AreClean (filter stays ms)
filter_clean [] clean = tt
filter_clean (m ∷ ms) clean = kept_clean (stays m) m (filter stays ms) clean.0 (filter_clean ms clean.1)

-- members that are joined and cut are the same ones
pub joined_members : (m : List ℕ) (ms : List (List ℕ)) → IsClean m → AreClean ms → entry_members (join_with_byte 59 (m ∷ ms)) ≡ m ∷ ms
joined_members m [] this others = slice_split_none (λ b. eqb b 59) m (clean_all m this)
joined_members m (n ∷ ms) this others =
    slice_split_at (λ b. eqb b 59) m 59 (join_with_byte 59 (n ∷ ms)) (clean_all m this) refl
    ∙ ap (λ l. m ∷ l) (joined_members n ms others.0 others.1)

-- ---- texts of thresholds

pub clean_append : (xs ys : List ℕ) → IsClean xs → IsClean ys → IsClean (xs ++ ys)
clean_append [] ys this other = other
clean_append (b ∷ xs) ys this other = (this.0, clean_append xs ys this.1 other)

clean_digit : (d : ℕ) → d < 16 → eqb (hex_digit d) 59 ≡ false
clean_digit d small = grind (arith, nat_tests)

clean_hex : (k n : ℕ) → IsClean (hex_text k n)
unfolding hex_text
clean_hex zero n = tt
clean_hex (suc k) n = clean_append (hex_text k (n / 16)) (hex_digit (n % 16) ∷ []) (clean_hex k (n / 16)) (clean_digit (n % 16) (omega arith), tt)

either_clean : (b : Bool) (xs ys : List ℕ) → IsClean xs → IsClean ys → IsClean (cond b xs ys)
either_clean true xs ys this other = this
either_clean false xs ys this other = other

pub clean_short : (k n : ℕ) → IsClean (short_hex k n)
unfolding short_hex
clean_short zero n = tt
clean_short (suc zero) n = clean_hex 1 n
clean_short (suc (suc k)) n = either_clean (eqb (n % 16) 0) (short_hex (suc k) (n / 16)) (hex_text (suc (suc k)) n) (clean_short (suc k) (n / 16)) (clean_hex (suc (suc k)) n)
