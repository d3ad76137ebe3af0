-- The lines of what was exported, until they are handed out.
use Rattle.std.specs.Prelude.{◌≡◌, ◌≢◌, ◌==◌, ◌⊎◌, ◌++◌, ◌+◌, ◌<◌, ◌≤◌, ℕ, Bool, List, [], Some, count_by, drop, length, slice_get, take}

-- lines, one after another, and how many spans each has
pub record LinesHeld : Type 0 where
  pub bytes : List ℕ
  pub spans : List ℕ

abbrev pub no_lines : LinesHeld
no_lines = record { bytes = []; spans = [] }

-- a byte ends a line
abbrev pub is_line_feed : ℕ → Bool
is_line_feed byte = byte == 10

-- so many bytes of lines were handed out, to the beginning of a buffer, and these are left; a line went for each line
-- feed
pub record HandsOut (old : LinesHeld) (count : ℕ) (buffer filled : List ℕ) (new : LinesHeld) : Type 0 where
  pub filled_is : filled ≡ take count old.bytes ++ drop count buffer
  pub bytes : new.bytes ≡ drop count old.bytes
  pub spans : new.spans ≡ drop (count_by is_line_feed (take count old.bytes)) old.spans

-- a buffer was too small, so that it and the lines stay; or so many bytes were handed out
pub record HandsOutIfFits (old : LinesHeld) (count : ℕ) (buffer filled : List ℕ) (new : LinesHeld) : Type 0 where
  pub fits : count ≤ length buffer → HandsOut old count buffer filled new
  pub too_long : length buffer < count → (filled ≡ buffer) × (new ≡ old)

-- so many bytes are as many whole lines as there is room for, or the first line where that has none: each line feed
-- within the room is among them, they end with one where they are not all, and in a first line without room none comes
-- earlier
pub record AreWholeLines (lines : List ℕ) (room count : ℕ) : Type 0 where
  pub most : (k : ℕ) → k < room → slice_get lines k ≡ Some 10 → k < count
  pub whole : (count ≡ length lines) ⊎ ((last : ℕ) × (count ≡ last + 1) × (slice_get lines last ≡ Some 10))
  pub first : room < count → (k : ℕ) → k + 1 < count → slice_get lines k ≢ Some 10
