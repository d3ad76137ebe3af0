-- Where a text is cut: after its first line feed, and round its first space.
use Rattle.std.proofs.Common.{◌≡◌, ◌≢◌, ℕ, ◌+◌, ◌<◌, ◌≤◌, Bool, true, false, cond, eqb, ltb, List, [], ◌∷◌, ◌++◌, length, take, drop, get_or, Option, None, Some, MatchOption, refl, sym, ap, ◌∙◌, arith, position, length-append}
use Rattle.std.specs.List.{slice_split, position_or_len, before_first, after_first}
use Rattle.std.specs.Str.Lines.{lines, lines_of_parts, strip_carriage_return}
use Rattle.std.proofs.lemmas.List.Splits.{slice_split_none, slice_split_first, length-slice_split}
use Rattle.std.proofs.lemmas.List.Sums.{fails_before_first}
use Rattle.std.proofs.lemmas.Bool.Decides.{nat_tests}
use Rattle.std.proofs.lemmas.List.{get_or_at}
use Rattle.otel_trace_lines.specs.Lines.{IsField}

-- a test for one byte
abbrev pub is : ℕ → ℕ → Bool
is c = λ b. eqb b c

-- which way a search went
found_or_not : (b : Bool) (n : ℕ) (r : Option ℕ) → r ≡ cond b (Some n) None → MatchOption r (b ≡ false) (λ i. (b ≡ true) × (i ≡ n))
found_or_not true n (Some i) e = (refl, cc)
found_or_not true n None e = cc
found_or_not false n (Some i) e = cc
found_or_not false n None e = refl

-- a list with a first part has its first line
first_of_parts : (x : List ℕ) (parts : List (List ℕ)) → 0 < length parts → lines_of_parts (x ∷ parts) ≡ strip_carriage_return x ∷ lines_of_parts parts
first_of_parts x [] h = absurd (omega arith)
first_of_parts x (y ∷ more) h = refl

-- the parts between line feeds are one at least
some_part : (text : List ℕ) → 0 < length (slice_split (is 10) text)
some_part text = omega (arith, length-slice_split (is 10) text)

-- a last part that is not empty is a line
last_part : (x : List ℕ) → 0 < length x → lines_of_parts (x ∷ []) ≡ x ∷ []
last_part [] h = absurd (omega arith)
last_part (b ∷ x) h = grind (arith, nat_tests)

-- a text with no line feed is one line
pub lines_none : (text : List ℕ) → position (is 10) text ≡ None → 0 < length text → lines text ≡ text ∷ []
lines_none text none some =
    let past : ltb (position_or_len (is 10) text) (length text) ≡ false = found_or_not _ _ _ (sym none) in
    let far : length text ≤ position_or_len (is 10) text = grind (arith, nat_tests) in
    let parts : slice_split (is 10) text ≡ text ∷ [] = slice_split_none (is 10) text (λ k d h. fails_before_first (is 10) text k d (omega arith)) in
    ap lines_of_parts parts ∙ last_part text some

-- the first line ends at the first line feed
pub lines_first : (text : List ℕ) (i : ℕ) → position (is 10) text ≡ Some i → (lines text ≡ strip_carriage_return (take i text) ∷ lines (drop (i + 1) text)) × (i < length text)
lines_first text i e =
    let found = found_or_not _ _ _ (sym e) in
    let within : position_or_len (is 10) text < length text = grind (arith, nat_tests) in
    let parts : lines_of_parts (slice_split (is 10) text) ≡ strip_carriage_return (before_first (is 10) text) ∷ lines_of_parts (slice_split (is 10) (after_first (is 10) text)) =
    ap lines_of_parts (slice_split_first (is 10) text 0 within)
    ∙ first_of_parts (before_first (is 10) text) (slice_split (is 10) (after_first (is 10) text)) (some_part (after_first (is 10) text)) in
    (rw found.1 parts, omega arith)

-- where no byte is a space, no field is followed by one
pub no_field : (text field rest : List ℕ) → ((i : ℕ) → i < length text → get_or text i 0 ≢ 32) → text ≡ field ++ 32 ∷ rest → ⊥
no_field text field rest none e =
    let long : length text ≡ length field + length (32 ∷ rest) = ap length e ∙ length-append field (32 ∷ rest) in
    none (length field) (omega arith) (ap (λ t. get_or t (length field) 0) e ∙ get_or_at field 32 rest 0 (length field) refl)

-- where the first byte is a space, no field stands in front
pub no_empty_field : (text front rest field after : List ℕ) → text ≡ front ++ 32 ∷ rest → ¬ (0 < length front) → IsField field → text ≡ field ++ 32 ∷ after → ⊥
no_empty_field text [] rest [] after e none is_field f = absurd (omega (arith, is_field.0))
no_empty_field text [] rest (b ∷ field) after e none is_field f = is_field.1 0 0 (omega arith) cc
no_empty_field text (b ∷ front) rest field after e none is_field f = absurd (none (omega arith))
