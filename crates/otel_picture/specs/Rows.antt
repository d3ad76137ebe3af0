-- The rows of a trace's picture: which span stands where, and how far under its ancestors.
use Rattle.std.specs.Prelude.{◌≡◌, ◌<◌, ℕ, suc, Bool, true, false, Option, Some, None, List, [], ◌∷◌}
use Rattle.std.specs.Prelude.{◌==◌, ◌⊎◌, get_or, length, count_by, if◌then◌else◌, nat_lt}
use Rattle.otel_picture.specs.Orders.{IsHead}
use Rattle.otel_picture.specs.Parents.{parent_of}
use Rattle.otel_picture.specs.declared.rows.Mark.{Mark}
use Rattle.otel_picture.specs.declared.rows.Row.{Row}

-- a span's row stands at the left: it has no parent in the picture, or is the first of a circle
abbrev pub IsTop : List Mark → List (Option ℕ) → ℕ → Type 0
IsTop marks parents span = (parent_of parents span ≡ None) ⊎ IsHead marks parents span

-- a row at the left
pub record IsRoot (marks : List Mark) (parents : List (Option ℕ)) (row : Row) : Type 0 where
  pub level : row.level ≡ 0
  pub top : IsTop marks parents row.span

-- the last one of rows, which come last first, that stands less than so many levels under a root
abbrev pub nearest_above : ℕ → List Row → Option Row
nearest_above level [] = None
nearest_above level (row ∷ before) = if nat_lt row.level level then Some row else nearest_above level before

-- a row under its parent's, which is the nearest above it of a lower level, by one
pub record IsUnder (parents : List (Option ℕ)) (before : List Row) (row : Row) : Type 0 where
  pub parent : Row
  pub known : parent_of parents row.span ≡ Some parent.span
  pub level : row.level ≡ suc parent.level
  pub is_nearest : nearest_above row.level before ≡ Some parent

-- each row is a root, or after its parent's row and one level under it: the rows, last first, are read on
abbrev pub StandUnder : List Mark → List (Option ℕ) → List Row → List Row → Type 0
StandUnder marks parents before [] = Unit {0}
StandUnder marks parents before (row ∷ rows) =
    (IsRoot marks parents row ⊎ IsUnder parents before row) × StandUnder marks parents (row ∷ before) rows

-- the rows of a span
abbrev pub rows_of : ℕ → List Row → ℕ
rows_of span rows = count_by (λ row. row.span == span) rows

-- a span of the picture that has no row yet
pub record IsLeft (placed : List Bool) (span : ℕ) : Type 0 where
  pub there : span < length placed
  pub left : get_or placed span true ≡ false
