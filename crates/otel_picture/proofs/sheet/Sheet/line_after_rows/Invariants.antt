-- The line so far, and what comes of the rows that are left.
use Rattle.std.proofs.Common.{◌≡◌, ◌<◌, All, length}
use Rattle.otel_picture.specs.Sheets.{plain_sheet}
use Rattle.otel_picture.specs.SvgNotes.{line_after_rows}
use Rattle.otel_picture.proofs.sheet.Sheet.line_after_rows.Given as goal

abbrev pub invariant-loop-row : goal.invariant-loop-row
invariant-loop-row l = record {
  line : line_after_rows (plain_sheet l.self) l.line l.left
      ≡ line_after_rows (plain_sheet l.self) l.fn.line l.self.trace.now.rows.items;
  there : All (λ row. row.span < length l.self.trace.now.family.marks.items) l.left;
}

abbrev pub decreases-loop-row : goal.decreases-loop-row
decreases-loop-row l = length l.left
