-- Walking over the pieces of a text between commas.
use Rattle.std.proofs.Common.{◌≡◌, ◌≢◌, ℕ, eqb, List, [], ◌∷◌, ◌++◌, map, Option, Some, None, refl, sym, ap, ◌∙◌}
use Rattle.std.specs.List.{filter, slice_split}
use Rattle.std.proofs.lemmas.List.{map-append}
use Rattle.std.proofs.lemmas.List.Elements.{filter-append}
use Rattle.opentelemetry.specs.declared.trace.trace_state.TraceStateError.{TraceStateError}
use denote.Ref.{Bor}
use Rattle.opentelemetry.specs.Tracestate.{trimmed, is_some_text, first_fault, first_of_two, member_fault, pair_of}
use Rattle.opentelemetry.proofs.PiecesLeft.{pieces_left, members_left, piece_fault}

-- after a fault or none, no fault is one more
nothing_after : (a : Option TraceStateError) → first_of_two a None ≡ a
nothing_after None = refl
nothing_after (Some fault) = refl

-- a list of pieces has the fault of its first one, or else of the others
fault_of_pieces : (piece : List ℕ) (others : List (List ℕ)) → first_fault (filter is_some_text (trimmed piece ∷ others)) ≡ first_of_two (piece_fault (trimmed piece)) (first_fault (filter is_some_text others))
fault_of_pieces piece others = by (trimmed piece)
  where
    by : (t : List ℕ) → first_fault (filter is_some_text (t ∷ others)) ≡ first_of_two (piece_fault t) (first_fault (filter is_some_text others))
    by [] = refl
    by (x ∷ xs) = ap (λ f. first_of_two f (first_fault (filter is_some_text others))) (sym (nothing_after (member_fault (x ∷ xs))))

-- the same of a text that was cut at its first comma
pub fault_of_cut : (text piece : List ℕ) (after : Option (Bor (List ℕ))) → slice_split (λ b. eqb b 44) text ≡ piece ∷ pieces_left after
    → first_fault (filter is_some_text (map trimmed (slice_split (λ b. eqb b 44) text))) ≡ first_of_two (piece_fault (trimmed piece)) (first_fault (members_left after))
fault_of_cut text piece after cut = ap (λ l. first_fault (filter is_some_text (map trimmed l))) cut ∙ fault_of_pieces piece (map trimmed (pieces_left after))

-- the members of a text that was cut at its first comma
pub cut_members : (text piece : List ℕ) (after : Option (Bor (List ℕ))) → slice_split (λ b. eqb b 44) text ≡ piece ∷ pieces_left after
    → filter is_some_text (map trimmed (slice_split (λ b. eqb b 44) text)) ≡ filter is_some_text (trimmed piece ∷ []) ++ members_left after
cut_members text piece after cut = ap (λ l. filter is_some_text (map trimmed l)) cut ∙ filter-append is_some_text (trimmed piece ∷ []) (map trimmed (pieces_left after))

-- the pairs of what was left are those of the piece that was cut off, and those of what is left then
pub pairs_left : (rest : Option (Bor (List ℕ))) (text : Bor (List ℕ)) (piece : List ℕ) (after : Option (Bor (List ℕ))) → rest ≡ Some text
    → slice_split (λ b. eqb b 44) text.now ≡ piece ∷ pieces_left after
    → map pair_of (members_left rest) ≡ map pair_of (filter is_some_text (trimmed piece ∷ [])) ++ map pair_of (members_left after)
pairs_left rest text piece after is cut =
    ap (λ r. map pair_of (members_left r)) is ∙ ap (map pair_of) (cut_members text.now piece after cut)
    ∙ map-append pair_of (filter is_some_text (trimmed piece ∷ [])) (members_left after)

-- where neither has a fault, both have none
pub none_of_two : (a b : Option TraceStateError) → first_of_two a b ≡ None → (a ≡ None) × (b ≡ None)
none_of_two None b h = (refl, h)
none_of_two (Some fault) b h = absurd cc

-- a piece that is not empty is a member
pub some_piece : (t : List ℕ) → t ≢ [] → map pair_of (filter is_some_text (t ∷ [])) ≢ []
some_piece [] h = absurd (h refl)
some_piece (x ∷ xs) h = λ e. absurd cc

-- where three lists in a row are empty, the middle one is
pub middle_empty : {X : Type 0} (front middle back : List X) → front ++ (middle ++ back) ≡ [] → middle ≡ []
middle_empty [] [] back h = refl
middle_empty [] (x ∷ middle) back h = absurd cc
middle_empty (x ∷ front) middle back h = absurd cc
