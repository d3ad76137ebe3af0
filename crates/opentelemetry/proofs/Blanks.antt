-- Cutting blanks off a text, one by one, and a text at its first comma.
use Rattle.std.proofs.Common.{◌≡◌, ◌≢◌, ℕ, ◌<◌, false, cond, ◌||◌, eqb, List, [], ◌∷◌, ◌++◌, length, reverse, Option, Some, None, refl, sym, ap, ◌∙◌, arith, length-append}
use Rattle.std.specs.Option.{MatchOption}
use Rattle.std.specs.List.{position_or_len, before_first, after_first, slice_split}
use Rattle.std.proofs.lemmas.List.{reverse-append, reverse-reverse}
use Rattle.std.proofs.lemmas.List.Splits.{slice_split_none, slice_split_first}
use Rattle.std.proofs.lemmas.List.Sums.{fails_before_first}
use borrow.Author.Tests.{ne_eqb}
use denote.Ref.{Bor}
use Rattle.opentelemetry.specs.Tracestate.{is_blank, trim_front}

-- a byte that is neither a space nor a tab
pub no_blank : (b : ℕ) → b ≢ 32 → b ≢ 9 → is_blank b ≡ false
no_blank b space tab = ap (λ t. t || eqb b 9) (ne_eqb b 32 space) ∙ ne_eqb b 9 tab

-- a text that begins with neither stays as it is
stays : (bs : List ℕ) → ((rest : List ℕ) → bs ≢ 32 ∷ rest) → ((rest : List ℕ) → bs ≢ 9 ∷ rest) → trim_front bs ≡ bs
stays [] space tab = refl
stays (b ∷ bs) space tab = ap (λ t. cond t (trim_front bs) (b ∷ bs)) (no_blank b (λ e. space bs (ap (λ x. x ∷ bs) e)) (λ e. tab bs (ap (λ x. x ∷ bs) e)))

-- what the cut of a tab in front leaves, where no space stands there
pub first_tab : (bs : List ℕ) (r : Option (Bor (List ℕ))) → ((rest : List ℕ) → bs ≢ 32 ∷ rest) → MatchOption r ((rest : List ℕ) → bs ≢ 9 ∷ rest) (λ x. bs ≡ 9 ∷ x.now)
    → MatchOption r (trim_front bs ≡ bs) (λ rest. (trim_front bs ≡ trim_front rest.now) × (length rest.now < length bs))
first_tab bs None space h = stays bs space h
first_tab bs (Some x) space h = (ap trim_front h, omega (arith, ap length h))

-- a text that ends with neither a space nor a tab, turned round
pub ends_stay : (bs : List ℕ) → ((front : List ℕ) → bs ≢ front ++ 32 ∷ []) → ((front : List ℕ) → bs ≢ front ++ 9 ∷ []) → trim_front (reverse bs) ≡ reverse bs
ends_stay bs space tab =
    stays (reverse bs)
    (λ rest e. space (reverse rest) (sym (reverse-reverse bs) ∙ ap reverse e ∙ reverse-append (32 ∷ []) rest))
    (λ rest e. tab (reverse rest) (sym (reverse-reverse bs) ∙ ap reverse e ∙ reverse-append (9 ∷ []) rest))

-- what the cut of a tab at the end leaves, where no space stands there
pub last_tab : (bs : List ℕ) (r : Option (Bor (List ℕ))) → ((front : List ℕ) → bs ≢ front ++ 32 ∷ []) → MatchOption r ((front : List ℕ) → bs ≢ front ++ 9 ∷ []) (λ x. bs ≡ x.now ++ 9 ∷ [])
    → MatchOption r (trim_front (reverse bs) ≡ reverse bs) (λ rest. (trim_front (reverse bs) ≡ trim_front (reverse rest.now)) × (length rest.now < length bs))
last_tab bs None space h = ends_stay bs space h
last_tab bs (Some x) space h = (ap (λ t. trim_front (reverse t)) h ∙ ap trim_front (reverse-append x.now (9 ∷ [])), omega (arith, ap length h, length-append x.now (9 ∷ [])))

-- what `split_once` says at a comma is the first cut
pub cut_first : (bs xs ys : List ℕ) → (position_or_len (λ b. eqb b 44) bs < length bs) × (xs ≡ before_first (λ b. eqb b 44) bs) × (ys ≡ after_first (λ b. eqb b 44) bs)
    → slice_split (λ b. eqb b 44) bs ≡ xs ∷ slice_split (λ b. eqb b 44) ys
cut_first bs xs ys h = slice_split_first (λ b. eqb b 44) bs 0 h.0 ∙ ap (λ t. t ∷ slice_split (λ b. eqb b 44) (after_first (λ b. eqb b 44) bs)) (sym h.1) ∙ ap (λ t. xs ∷ slice_split (λ b. eqb b 44) t) (sym h.2)

-- without a comma there is the one piece
pub cut_none : (bs : List ℕ) → position_or_len (λ b. eqb b 44) bs ≡ length bs → slice_split (λ b. eqb b 44) bs ≡ bs ∷ []
cut_none bs none = slice_split_none (λ b. eqb b 44) bs (λ k d inside. fails_before_first (λ b. eqb b 44) bs k d (omega arith))
