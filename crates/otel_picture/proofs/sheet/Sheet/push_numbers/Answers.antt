-- A number after another, where there is room.
use Rattle.std.proofs.Common.{◌≡◌, ◌∙◌, [], append-nil, codes, string_bytes, sym}
use Rattle.std.proofs.lemmas.List.{get_or_default}
use Rattle.std.proofs.lemmas.Result.{on_ok_weaker}
use Rattle.otel_picture.specs.PlainSheets.{row_mark}
use Rattle.otel_picture.specs.RowTexts.{number_text}
use Rattle.otel_picture.specs.Sheets.{plain_sheet}
use Rattle.otel_picture.proofs.Joined.{then_more}
use Rattle.otel_picture.proofs.sheet.Sheet.push_numbers.Goals as goal

pub returns-then-not-self : goal.returns-then-not-self
returns-then-not-self c = rw c.if-not-self.true (sym (append-nil (string_bytes c.args.text.now)))

pub returns : goal.returns
unfolding lib.Utf8.encode
returns c =
    let mark : c.index-mark.result.now ≡ row_mark (plain_sheet c.args.self.now) c.args.row =
    c.index-mark.ensures
    ∙ get_or_default c.args.self.now.trace.now.family.marks.items c.args.row.span c.index-mark.result.now _ c.requires in
    rw c.if-not-self.false (rw (← mark) (rw (← c.saturating_sub.ensures) (rw (← c.saturating_sub-2.ensures)
    (on_ok_weaker c.push_number-2.result
    (λ e. then_more (string_bytes c.args.text.now) (string_bytes c.push_number.new.text)
    (string_bytes c.push_number-2.new.text) (number_text (codes "+") c.saturating_sub.result)
    (number_text [] c.saturating_sub-2.result) c.in_ok-push_number.ensures e)
    c.push_number-2.ensures))))
