-- One piece after another.
use Rattle.std.proofs.Common.{◌++◌, ◌∙◌, ap, string_bytes}
use Rattle.opentelemetry.specs.PlainValues.{plain_status}
use Rattle.otel_shown.specs.Shown.{PlainShownSpan}
use Rattle.otel_picture.specs.RowTexts.{bar_text, indent_of, name_text, note_text, numbers_text, self_text, under_text}
use Rattle.otel_picture.specs.PlainSheets.{row_span}
use Rattle.otel_picture.specs.Sheets.{plain_sheet}
use Rattle.otel_picture.proofs.Joined.{then_more}
use Rattle.otel_picture.proofs.sheet.Sheet.push_row.Goals as goal

pub returns : goal.returns
returns c =
    let sheet = plain_sheet c.args.self.now in
    let row = c.args.row in
    let name = name_text sheet row in
    let bar = bar_text sheet row in
    let numbers = numbers_text sheet row in
    let own = self_text sheet c.args.own in
    let note = note_text sheet (indent_of sheet row) (row_span sheet row).status in
    let under = under_text sheet row in
    let end = string_bytes c.push_under.new.text in
    let last = c.in_ok-push_note.ensures
    ∙ ap (λ n. string_bytes c.push_self_time.new.text ++ note_text sheet n (plain_status c.span.inside.status))
    c.indent_of.ensures
    ∙ ap (λ (s : PlainShownSpan). string_bytes c.push_self_time.new.text ++ note_text sheet (indent_of sheet row) s.status)
    (c.span.view_is ∙ c.span_of-span.ensures) in
    then_more (string_bytes c.args.text.now) (string_bytes c.push_name.new.text) end name
    (bar ++ (numbers ++ (own ++ (note ++ under)))) c.in_ok-push_name.ensures
    (then_more (string_bytes c.push_name.new.text) (string_bytes c.push_bar.new.text) end bar
    (numbers ++ (own ++ (note ++ under))) c.in_ok-push_bar.ensures
    (then_more (string_bytes c.push_bar.new.text) (string_bytes c.push_numbers.new.text) end numbers
    (own ++ (note ++ under)) c.in_ok-push_numbers.ensures
    (then_more (string_bytes c.push_numbers.new.text) (string_bytes c.push_self_time.new.text) end own (note ++ under)
    c.in_ok-push_self_time.ensures
    (then_more (string_bytes c.push_self_time.new.text) (string_bytes c.push_note.new.text) end note under last
    c.in_ok-push_under.ensures))))
