-- What is odd about the span of a row: a moment that is missing, an end before its start, a circle of parents, an id
-- that another has.
use Rattle.std.specs.Prelude.{ℕ, ◌+◌, ◌==◌, ◌&&◌, Bool, List, [], ◌++◌, codes, if◌then◌else◌, is_some, nat_lt, not}
use Rattle.otel_picture.specs.Details.{detail_text}
use Rattle.otel_picture.specs.Families.{comes_again, parent_in}
use Rattle.otel_picture.specs.PlainSheets.{PlainSheet, row_mark, row_span}
use Rattle.otel_picture.specs.declared.details.Under.{Under}
use Rattle.otel_picture.specs.declared.odd.Odd.{Odd}
use Rattle.otel_picture.specs.declared.rows.Row.{Row}

-- a row at the left whose span has its parent in the picture is the first one of a circle
unfoldable pub odd_of : PlainSheet → Row → Odd
odd_of sheet row = record {
  no_start = (row_span sheet row).start_time == 0;
  no_end = (row_mark sheet row).end == 0;
  is_backward = not ((row_mark sheet row).end == 0) && nat_lt (row_mark sheet row).end (row_mark sheet row).start;
  in_circle = (row.level == 0) && is_some (parent_in sheet.trace.marks (row_mark sheet row));
  comes_again = comes_again sheet.trace.marks row.span;
}

-- a line that says so, where it is so
abbrev pub odd_line : Under → Bool → List ℕ → List ℕ
odd_line under is_so said = if is_so then detail_text under (codes "? ") said else []

-- what is odd, a line each
unfoldable pub odd_text : Under → Odd → List ℕ
odd_text under odd =
    odd_line under odd.no_start (codes "no start") ++ (odd_line under odd.no_end (codes "no end")
    ++ (odd_line under odd.is_backward (codes "ends before it starts")
    ++ (odd_line under odd.in_circle (codes "in a circle of parents")
    ++ odd_line under odd.comes_again (codes "has the id of a span before it"))))

-- how many lines that takes
abbrev pub one_if : Bool → ℕ
one_if is_so = if is_so then 1 else 0

unfoldable pub odd_lines : Odd → ℕ
odd_lines odd =
    one_if odd.no_start + one_if odd.no_end + one_if odd.is_backward + one_if odd.in_circle + one_if odd.comes_again
