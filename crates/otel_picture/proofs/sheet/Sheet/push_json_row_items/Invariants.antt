-- What is written, and the rows that are left.
use denote.Shadow.{shadow}
use denote.Text.{Utf8}
use Rattle.std.proofs.Common.{◌≡◌, ◌++◌, [], drop}
use Rattle.otel_picture.specs.HtmlRows.{rows_tokens}
use Rattle.otel_picture.specs.Sheets.{plain_sheet}
use Rattle.otel_picture.proofs.sheet.Sheet.push_json_row_items.Given as goal

abbrev pub invariant-loop-row : goal.invariant-loop-row
invariant-loop-row l =
    let sheet = plain_sheet l.self in
    let rows = l.self.trace.now.rows.items in
    record {
      text : shadow (Utf8 l.before);
      before : l.out.before ≡ l.fn.out.before;
      written : l.out.tokens ++ rows_tokens sheet l.before (drop l.row-index rows)
          ≡ l.fn.out.tokens ++ rows_tokens sheet [] rows;
    }
