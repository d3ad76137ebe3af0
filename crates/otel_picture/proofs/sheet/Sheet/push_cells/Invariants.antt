-- The columns so far.
use Rattle.std.proofs.Common.{◌≡◌, ◌++◌, string_bytes}
use Rattle.otel_picture.specs.RowTexts.{cells_text}
use Rattle.otel_picture.specs.Sheets.{plain_sheet}
use Rattle.otel_picture.proofs.sheet.Sheet.push_cells.Given as goal

abbrev pub invariant-loop-column : goal.invariant-loop-column
invariant-loop-column l =
    string_bytes l.text ≡ string_bytes l.fn.text ++ cells_text (plain_sheet l.self) l.span l.column
