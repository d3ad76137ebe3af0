-- What was read of an input and is not answered yet, and what a call that reads on or writes does.
use Rattle.std.specs.Prelude.{◌≡◌, ◌≢◌, ℕ, ◌<◌, ◌≤◌, ◌+◌, ◌-◌, Bool, IsTrue, IsFalse, List, [], ◌++◌, length, take, drop}
use Rattle.std.specs.Prelude.{Option, Some, None, Result, Ok, Err, All, slice_index}
use Rattle.std.specs.Io.{IsEmptyOrEndsWith}
use Rattle.std.specs.Io.KnownBytes.{Consumes, IsAtEnd}

-- a read brought so many bytes, which stand here in a buffer; none only at the end of the input
pub record Brings (before after : Option (List ℕ)) (buffer : List ℕ) (at count : ℕ) : Type 0 where
  pub fits : at + count ≤ length buffer
  pub consumed : Consumes before after (take count (drop at buffer))
  pub end : count ≡ 0 → IsAtEnd after

-- lines, and after them the line that is not ended yet
pub record PlainPieces : Type 0 where
  pub lines : List ℕ
  pub rest : List ℕ

-- bytes without a line feed
abbrev pub EndsNoLine : List ℕ → Type 0
EndsNoLine bytes = All (λ b. b ≢ 10) bytes

-- the last line that ends among bytes ends here
abbrev pub LastEnds : List ℕ → ℕ → Type 0
LastEnds bytes end =
    (0 < end) × (end ≤ length bytes) × (slice_index bytes (end - 1) ≡ 10) × EndsNoLine (drop end bytes)

-- a call read on after a rest: there are lines, whole ones; or the input is at its end, and nothing is left behind
-- them
pub record GivesLines (before after : Option (List ℕ)) (rest : List ℕ) (goes_on : Bool) (now : PlainPieces)
    : Type 0 where
  pub read : List ℕ
  pub consumed : Consumes before after read
  pub joined : rest ++ read ≡ now.lines ++ now.rest
  pub unended : EndsNoLine now.rest
  pub some : IsTrue goes_on → (0 < length now.lines) × IsEmptyOrEndsWith now.lines 10
  pub last : IsFalse goes_on → (now.rest ≡ []) × IsAtEnd after

-- a call failed that was to read on after a rest: it gives no lines, and what it read is after that rest
pub record KeepsAll (before after : Option (List ℕ)) (rest : List ℕ) (now : PlainPieces) : Type 0 where
  pub read : List ℕ
  pub consumed : Consumes before after read
  pub joined : rest ++ read ≡ now.rest
  pub unended : EndsNoLine now.rest
  pub none : now.lines ≡ []

-- where the last line ends among bytes of which so many were there before: after them, or nowhere, at the end of the
-- input or where reading failed
abbrev pub EndsLines : {E : Type 0} → Option (List ℕ) → ℕ → List ℕ → Result (Option ℕ) E → Type 0
EndsLines after before bytes (Ok (Some end)) = (before < end) × (end ≤ length bytes)
    × (slice_index bytes (end - 1) ≡ 10) × EndsNoLine (drop end bytes)
EndsLines after before bytes (Ok None) = IsAtEnd after × EndsNoLine (drop before bytes)
EndsLines after before bytes (Err error) = EndsNoLine (drop before bytes)
