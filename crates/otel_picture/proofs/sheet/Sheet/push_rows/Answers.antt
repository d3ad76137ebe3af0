-- One row more.
use Rattle.std.proofs.Common.{◌<◌, ◌+◌, ◌++◌, ◌∙◌, ap, arith, drop, get_or, length, string_bytes, sym}
use Rattle.std.proofs.lemmas.List.{drop_more, get_or_read}
use Rattle.otel_picture.specs.RowTexts.{row_text, rows_text}
use Rattle.otel_picture.specs.Sheets.{plain_sheet}
use Rattle.otel_picture.specs.declared.rows.Row.{Row}
use Rattle.otel_picture.proofs.Joined.{taken}
use Rattle.otel_picture.proofs.sheet.Sheet.push_rows.Goals as goal

pub loop-at-preserved : goal.loop-at-preserved
loop-at-preserved c =
    let sheet = plain_sheet c.args.self.now in
    let rows = c.as_slice-rows.result.now in
    let at = c.loop-at.at in
    let none : Row = record { span = 0; level = 0 } in
    let row : Row = get_or rows at none in
    let rest = drop (at + 1) rows in
    let there : at < length rows = omega (arith, c.loop-at-test.true) in
    let times = rw c.deref.ensures.value at c.in_ok-own.ensures in
    let own = get_or_read c.in_ok-own.own.items at c.index.result.now
    (omega (arith, there, times.alike)) c.index.ensures 0 ∙ times.each at none there in
    taken (string_bytes c.loop-at.text) (string_bytes c.push_row.new.text) (row_text sheet row c.index.result.now)
    (rows_text sheet rest) (rows_text sheet (drop at rows)) _ c.in_ok-push_row.ensures
    (ap (rows_text sheet) (drop_more rows at none there)
    ∙ ap (λ n. row_text sheet row n ++ rows_text sheet rest) (sym own)) c.loop-at.invariant
