-- The rows so far, and those that are left.
use Rattle.std.proofs.Common.{◌≡◌, ◌++◌, drop, string_bytes}
use Rattle.otel_picture.specs.RowTexts.{rows_text}
use Rattle.otel_picture.specs.Sheets.{plain_sheet}
use Rattle.otel_picture.proofs.sheet.Sheet.push_rows.Given as goal

abbrev pub invariant-loop-at : goal.invariant-loop-at
invariant-loop-at l = string_bytes l.text ++ rows_text (plain_sheet l.self) (drop l.at l.rows)
    ≡ string_bytes l.fn.text ++ rows_text (plain_sheet l.self) l.rows
