-- The lines so far, and those of the rows that are left.
use Rattle.std.proofs.Common.{◌≡◌, ◌<◌, ◌++◌, All, length, string_bytes}
use Rattle.otel_picture.specs.Sheets.{plain_sheet}
use Rattle.otel_picture.specs.SvgTexts.{svg_rows}
use Rattle.otel_picture.proofs.sheet.Sheet.push_svg_rows.Given as goal

abbrev pub invariant-loop-row : goal.invariant-loop-row
invariant-loop-row l = record {
  text : string_bytes l.out ++ svg_rows (plain_sheet l.self) l.line l.left
      ≡ string_bytes l.fn.out ++ svg_rows (plain_sheet l.self) l.fn.line l.self.trace.now.rows.items;
  there : All (λ row. row.span < length l.self.trace.now.family.marks.items) l.left;
}

abbrev pub decreases-loop-row : goal.decreases-loop-row
decreases-loop-row l = length l.left
