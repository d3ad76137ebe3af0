-- The lines that are left of a text.
use Rattle.std.proofs.Common.{◌≡◌, ◌+◌, ◌<◌, ◌≤◌, ℕ, Bool, true, false, cond, eqb, ltb, List, [], ◌∷◌, Option, None, Some}
use Rattle.std.proofs.Common.{MatchOption, length, take, drop, position, refl, sym, arith}
use Rattle.std.proofs.lemmas.Bool.Decides.{nat_tests}
use Rattle.std.proofs.lemmas.List.Splits.{slice_split_none, slice_split_first}
use Rattle.std.proofs.lemmas.List.Sums.{fails_before_first}
use Rattle.std.specs.Borrow.{Bor}
use Rattle.std.specs.List.{position_or_len, before_first, after_first}
use Rattle.std.specs.Option.{option_map}
use Rattle.otel_otlp_read.specs.Inputs.{text_lines}

-- the text that is left, if a line is
abbrev pub left_text : Option (Bor (List ℕ)) → Option (List ℕ)
left_text text = option_map (λ t. t.now) text

-- how many lines may be left of it, at most
abbrev pub left : Option (List ℕ) → ℕ
left None = 0
left (Some text) = length text + 1

-- a test for a line feed
abbrev is_feed : ℕ → Bool
is_feed = λ b. eqb b 10

-- which way a search went
found_or_not : (b : Bool) (n : ℕ) (r : Option ℕ) → r ≡ cond b (Some n) None
    → MatchOption r (b ≡ false) (λ i. (b ≡ true) × (i ≡ n))
found_or_not true n (Some i) e = (refl, cc)
found_or_not true n None e = cc
found_or_not false n (Some i) e = cc
found_or_not false n None e = refl

-- a text without a line feed is one line
pub lines_none : (text : List ℕ) → position is_feed text ≡ None → text_lines text ≡ text ∷ []
lines_none text none =
    let past : ltb (position_or_len is_feed text) (length text) ≡ false = found_or_not _ _ _ (sym none) in
    let far : length text ≤ position_or_len is_feed text = grind (arith, nat_tests) in
    slice_split_none is_feed text (λ k d h. fails_before_first is_feed text k d (omega arith))

-- the first line ends at the first line feed
pub lines_first : (text : List ℕ) (i : ℕ) → position is_feed text ≡ Some i
    → (text_lines text ≡ take i text ∷ text_lines (drop (i + 1) text)) × (i < length text)
lines_first text i e =
    let found = found_or_not _ _ _ (sym e) in
    let within : position_or_len is_feed text < length text = grind (arith, nat_tests) in
    let parts : text_lines text ≡ before_first is_feed text ∷ text_lines (after_first is_feed text) =
    slice_split_first is_feed text 0 within in
    (rw found.1 parts, omega arith)
