-- Texts that are joined at a line's end: the lines are joined too.
use Rattle.std.proofs.Common.{◌≡◌, ℕ, ◌-◌, Bool, true, false, cond, eqb, List, [], ◌∷◌, ◌++◌, length, get_or, map, refl, sym, ap, ◌∙◌, arith}
use Rattle.std.specs.List.{slice_split, onto_first}
use Rattle.std.specs.Str.Lines.{lines, lines_of_parts, strip_carriage_return}
use Rattle.std.specs.Io.{IsEmptyOrEndsWith}
use Rattle.std.proofs.lemmas.List.{append_assoc, append-nil}

-- a test for a line feed
abbrev is_feed : ℕ → Bool
is_feed = λ b. eqb b 10

-- a byte in front of joined parts stands in front of the first
onto_joined : (b : ℕ) (part : List ℕ) (parts more : List (List ℕ)) → onto_first b ((part ∷ parts) ++ more) ≡ onto_first b (part ∷ parts) ++ more
onto_joined b part parts more = refl

-- there is a first part
first_part : (text : List ℕ) → (part : List ℕ) × (parts : List (List ℕ)) × (slice_split is_feed text ≡ part ∷ parts)
first_part [] = ([], [], refl)
first_part (b ∷ text) =
    let after = first_part text in
    elim (is_feed b) as (λ v. (part : List ℕ) × (parts : List (List ℕ)) × (cond v ([] ∷ slice_split is_feed text) (onto_first b (slice_split is_feed text)) ≡ part ∷ parts)) [
      | true ↦ ([], slice_split is_feed text, refl)
      | false ↦ (b ∷ after.0, after.1, ap (onto_first b) after.2)
    ]

onto_more : (b : ℕ) (text : List ℕ) (more : List (List ℕ)) → onto_first b (slice_split is_feed text ++ more) ≡ onto_first b (slice_split is_feed text) ++ more
onto_more b text more =
    let h = first_part text in rw h.2 refl

-- the parts of texts that a line feed joins
parts_joined : (text after : List ℕ) → slice_split is_feed (text ++ 10 ∷ after) ≡ slice_split is_feed text ++ slice_split is_feed after
parts_joined [] after = refl
parts_joined (b ∷ text) after =
    let more = parts_joined text after in
    elim (is_feed b) as (λ v. cond v ([] ∷ slice_split is_feed (text ++ 10 ∷ after)) (onto_first b (slice_split is_feed (text ++ 10 ∷ after)))
    ≡ cond v ([] ∷ slice_split is_feed text) (onto_first b (slice_split is_feed text)) ++ slice_split is_feed after) [
      | true ↦ ap (λ ps. [] ∷ ps) more
      | false ↦ ap (onto_first b) more ∙ onto_more b text (slice_split is_feed after)
    ]

-- parts in front of others each end in a line feed
lines_in_front : (parts : List (List ℕ)) (part : List ℕ) (more : List (List ℕ)) → lines_of_parts (parts ++ part ∷ more) ≡ map strip_carriage_return parts ++ lines_of_parts (part ∷ more)
lines_in_front [] part more = refl
lines_in_front (x ∷ []) part more = refl
lines_in_front (x ∷ y ∷ parts) part more = ap (λ ls. strip_carriage_return x ∷ ls) (lines_in_front (y ∷ parts) part more)

-- the lines of a text that ends in a line feed, in front of another
lines_after : (front after : List ℕ) → lines (front ++ 10 ∷ after) ≡ map strip_carriage_return (slice_split is_feed front) ++ lines after
lines_after front after =
    let h = first_part after in
    ap lines_of_parts (parts_joined front after) ∙ ap (λ ps. lines_of_parts (slice_split is_feed front ++ ps)) h.2 ∙ lines_in_front (slice_split is_feed front) h.0 h.1
    ∙ ap (λ ps. map strip_carriage_return (slice_split is_feed front) ++ lines_of_parts ps) (sym h.2)

pub lines_at_feed : (front after : List ℕ) → lines (front ++ 10 ∷ after) ≡ lines (front ++ 10 ∷ []) ++ lines after
lines_at_feed front after =
    lines_after front after ∙ ap (λ ls. ls ++ lines after) (sym (lines_after front [] ∙ append-nil (map strip_carriage_return (slice_split is_feed front))))

-- what stands in front of the last byte
ends_in_feed : (b : ℕ) (text : List ℕ) → get_or (b ∷ text) (length text) 0 ≡ 10 → (front : List ℕ) × (b ∷ text ≡ front ++ 10 ∷ [])
ends_in_feed b [] e = ([], ap (λ c. c ∷ []) e)
ends_in_feed b (c ∷ text) e = let h = ends_in_feed c text e in (b ∷ h.0, ap (λ t. b ∷ t) h.1)

-- the lines of joined texts, of which the first is empty or ends in a line feed
pub lines_joined : (first second : List ℕ) → IsEmptyOrEndsWith first 10 → lines (first ++ second) ≡ lines first ++ lines second
lines_joined [] second ends = refl
lines_joined (b ∷ first) second ends =
    let last : get_or (b ∷ first) (length first) 0 ≡ 10 = let i : length (b ∷ first) - 1 ≡ length first = omega arith in ap (λ n. get_or (b ∷ first) n 0) (sym i) ∙ ends (omega arith) in
    let h = ends_in_feed b first last in
    ap (λ t. lines (t ++ second)) h.1 ∙ ap lines (append_assoc h.0 (10 ∷ []) second) ∙ lines_at_feed h.0 second ∙ ap (λ t. lines t ++ lines second) (sym h.1)
