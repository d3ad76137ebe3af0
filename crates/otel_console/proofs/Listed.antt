-- A list in brackets, written item by item.
use Rattle.std.proofs.Common.{◌≡◌, ℕ, ◌+◌, ◌<◌, List, [], ◌∷◌, ◌++◌, length, take, get_or, map, refl, sym, ap, ◌∙◌, arith}
use Rattle.std.specs.List.{join_with_byte}
use Rattle.std.proofs.lemmas.List.{append_assoc, map_more, length-take-le, length-map}
use Rattle.std.proofs.lemmas.Bool.Decides.{nat_tests}
use Rattle.otel_console.specs.SpanText.{comma_before}

-- a piece after others stands after a comma
join_more : (pieces : List (List ℕ)) (piece : List ℕ) → 0 < length pieces → join_with_byte 44 (pieces ++ piece ∷ []) ≡ join_with_byte 44 pieces ++ 44 ∷ piece
join_more [] piece h = absurd (omega arith)
join_more (x ∷ []) piece h = refl
join_more (x ∷ y ∷ more) piece h =
    ap (λ t. x ++ 44 ∷ t) (join_more (y ∷ more) piece (omega arith)) ∙ sym (append_assoc x (44 ∷ join_with_byte 44 (y ∷ more)) (44 ∷ piece))

-- a piece after others, or alone
join_next : (pieces : List (List ℕ)) (piece : List ℕ) (i : ℕ) → length pieces ≡ i → join_with_byte 44 (pieces ++ piece ∷ []) ≡ join_with_byte 44 pieces ++ (comma_before i ++ piece)
join_next [] piece i h = rw (sym h) refl
join_next (x ∷ more) piece i h =
    let some : 0 < i = omega (arith, h) in
    let comma : comma_before i ≡ 44 ∷ [] = grind (arith, nat_tests) in
    rw comma (join_more (x ∷ more) piece (omega arith))

-- one item more
pub listed_more : {X : Type 0} (text : X → List ℕ) (items : List X) (i : ℕ) (item : X) → i < length items → item ≡ get_or items i item → join_with_byte 44 (map text (take (i + 1) items)) ≡ join_with_byte 44 (map text (take i items)) ++ (comma_before i ++ text item)
listed_more {X} text items i item within is =
    let more = map_more text items i item within in
    let long : length (map text (take i items)) ≡ i = length-map (take i items) text ∙ length-take-le i items (omega arith) in
    ap (λ pieces. join_with_byte 44 pieces) more ∙ (rw (← is) (join_next (map text (take i items)) (text item) i long))

-- the text after an item more: t is before, then the bracket and the items so far; u has the comma too, and v the item
pub item_written : {X : Type 0} (text : X → List ℕ) (items : List X) (i : ℕ) (item : X) (before t u v : List ℕ) → i < length items → item ≡ get_or items i item
    → t ≡ before ++ (91 ∷ join_with_byte 44 (map text (take i items))) → u ≡ t ++ comma_before i → v ≡ u ++ text item → v ≡ before ++ (91 ∷ join_with_byte 44 (map text (take (i + 1) items)))
item_written {X} text items i item before t u v within is e f g =
    rw (g, f, e, listed_more text items i item within is) (simp append_assoc)
