-- The order of the spans of a trace: by start, and then by order of export.
use Rattle.std.specs.Prelude.{◌≡◌, ◌<◌, ℕ, suc, Bool, true, false, List, [], ◌∷◌, ◌&&◌, ◌||◌, ◌⊎◌, ◌==◌, Option, Some}
use Rattle.std.specs.Prelude.{get_or, nat_lt}
use Rattle.std.specs.List.{AllByRecursion}
use Rattle.otel_picture.specs.Parents.{ancestor, parent_of}
use Rattle.otel_picture.specs.declared.rows.Mark.{Mark}
use Rattle.otel_picture.specs.declared.rows.Row.{Row}

-- stands for a mark where a list has none
abbrev pub no_mark : Mark
no_mark = record { place = 0; id = 0; parent = 0; start = 0; end = 0 }

abbrev pub mark_at : List Mark → ℕ → Mark
mark_at marks span = get_or marks span no_mark

abbrev pub start_at : List Mark → ℕ → ℕ
start_at marks span = (mark_at marks span).start

-- whether a span comes before another
abbrev pub comes_before : List Mark → ℕ → ℕ → Bool
comes_before marks span other =
    nat_lt (start_at marks span) (start_at marks other)
    || ((start_at marks span == start_at marks other) && nat_lt span other)

-- the first span of a circle of parents: steps up from it come back to it, and no span there comes before it
pub record IsHead (marks : List Mark) (parents : List (Option ℕ)) (span : ℕ) : Type 0 where
  pub steps : ℕ
  pub circle : ancestor parents (suc steps) span ≡ Some span
  pub first : (count other : ℕ) → ancestor parents count span ≡ Some other → comes_before marks other span ≡ false

-- whether a row is a root's that comes after a span
abbrev pub is_later_root : List Mark → ℕ → Row → Bool
is_later_root marks span row = (row.level == 0) && comes_before marks span row.span

-- rows of siblings: both of roots, or under one parent
abbrev pub AreSiblings : List (Option ℕ) → Row → Row → Type 0
AreSiblings parents row other = ((row.level ≡ 0) × (other.level ≡ 0))
    ⊎ ((0 < row.level) × (0 < other.level) × (parent_of parents row.span ≡ parent_of parents other.span))

-- a row comes before another that is a sibling's
abbrev pub Precedes : List Mark → List (Option ℕ) → Row → Row → Type 0
Precedes marks parents row other = AreSiblings parents row other → comes_before marks row.span other.span ≡ true

-- of siblings the rows stand in order
abbrev pub AreInOrder : List Mark → List (Option ℕ) → List Row → Type 0
AreInOrder marks parents [] = Unit {0}
AreInOrder marks parents (row ∷ rows) =
    AllByRecursion (Precedes marks parents row) rows × AreInOrder marks parents rows
