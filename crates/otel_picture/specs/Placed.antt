-- Rows as they are put in, one after the other, and all rows of a trace.
use Rattle.std.specs.Prelude.{◌≡◌, ◌<◌, ◌≤◌, ℕ, Bool, true, false, List, [], Option, All, count_by, get_or, insert}
use Rattle.std.specs.Prelude.{if◌then◌else◌, length}
use Rattle.otel_picture.specs.Families.{parents_in}
use Rattle.otel_picture.specs.Orders.{AreInOrder, comes_before}
use Rattle.otel_picture.specs.Parents.{parent_of}
use Rattle.otel_picture.specs.Rows.{IsLeft, StandUnder, rows_of}
use Rattle.otel_picture.specs.declared.rows.Mark.{Mark}
use Rattle.otel_picture.specs.declared.rows.Row.{Row}

-- the spans that have no row yet come before their siblings that have one under their parent
abbrev pub WaitInFront : List Mark → List (Option ℕ) → List Bool → List Row → Type 0
WaitInFront marks parents placed rows = All (λ row. 0 < row.level → (span : ℕ) → IsLeft placed span
    → parent_of parents span ≡ parent_of parents row.span → comes_before marks span row.span ≡ true) rows

-- the rows so far, where these spans have one
pub record ArePlaced (marks : List Mark) (parents : List (Option ℕ)) (placed : List Bool) (rows : List Row)
    : Type 0 where
  pub alike : length placed ≡ length parents
  pub once : (span : ℕ) → rows_of span rows ≡ (if get_or placed span false then 1 else 0)
  pub no_more : length rows ≡ count_by (λ has_row. has_row) placed
  pub under : StandUnder marks parents [] rows
  pub shallow : All (λ row. row.level < length rows) rows
  pub there : All (λ row. row.span < length parents) rows
  pub in_order : AreInOrder marks parents rows
  pub wait : WaitInFront marks parents placed rows

-- the row of a span was put in
pub record IsPutIn (marks : List Mark) (parents : List (Option ℕ)) (placed : List Bool) (old new : List Row) (span : ℕ)
    : Type 0 where
  pub row : Row
  pub at : ℕ
  pub within : at ≤ length old
  pub is : new ≡ insert old at row
  pub shows : row.span ≡ span
  pub shallow : row.level ≤ length old
  pub under : StandUnder marks parents [] new
  pub in_order : AreInOrder marks parents new
  pub waits : 0 < row.level → (other : ℕ) → IsLeft placed other → (other ≡ span → ⊥)
      → parent_of parents other ≡ parent_of parents span → comes_before marks other span ≡ true

-- the rows of the spans of these marks: each span has one, and there are no others; each is a root's, or under its
-- parent's; siblings stand in order
pub record AreRows (marks : List Mark) (rows : List Row) : Type 0 where
  pub each_once : (span : ℕ) → span < length marks → rows_of span rows ≡ 1
  pub no_more : length rows ≡ length marks
  pub there : All (λ row. row.span < length marks) rows
  pub under : StandUnder marks (parents_in marks) [] rows
  pub in_order : AreInOrder marks (parents_in marks) rows
