-- What a walk over the pieces of a text between commas has before it.
use Rattle.std.specs.Prelude.{◌≡◌, ℕ, ◌+◌, List, [], ◌∷◌, Option, Some, None, map, length, ◌==◌}
use Rattle.std.specs.Option.{MatchOption}
use Rattle.std.specs.Str.{IsUtf8}
use Rattle.std.specs.List.{filter, slice_split}
use Rattle.opentelemetry.specs.declared.trace.trace_state.TraceStateError.{TraceStateError}
use denote.Ref.{Bor}
use Rattle.opentelemetry.specs.Tracestate.{first_fault, is_some_text, trimmed}

-- what is left to cut at commas
abbrev pub pieces_left : Option (Bor (List ℕ)) → List (List ℕ)
pieces_left None = []
pieces_left (Some rest) = slice_split (λ b. b == 44) rest.now

-- the members of what is left
abbrev pub members_left : Option (Bor (List ℕ)) → List (List ℕ)
members_left rest = filter is_some_text (map trimmed (pieces_left rest))

-- what is wrong with a trimmed piece: nothing where it is empty
abbrev pub piece_fault : List ℕ → Option TraceStateError
piece_fault piece = first_fault (filter is_some_text (piece ∷ []))

-- the first piece of a text, and those that are left after it
pub cut_pieces : (text piece : List ℕ) (after : Option (Bor (List ℕ)))
    → MatchOption after (slice_split (λ b. b == 44) text ≡ piece ∷ []) (λ rest. slice_split (λ b. b == 44) text ≡ piece ∷ slice_split (λ b. b == 44) rest.now)
    → slice_split (λ b. b == 44) text ≡ piece ∷ pieces_left after
cut_pieces text piece None h = h
cut_pieces text piece (Some rest) h = h

-- how much of a text is left
abbrev pub rest_len : Option (Bor (List ℕ)) → ℕ
rest_len None = 0
rest_len (Some rest) = length rest.now + 1

-- what is left is text
abbrev pub IsTextLeft : Option (Bor (List ℕ)) → Type 0
IsTextLeft rest = MatchOption rest (Unit {0}) (λ r. IsUtf8 r.now)
