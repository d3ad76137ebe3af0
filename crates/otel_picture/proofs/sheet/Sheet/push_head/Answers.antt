-- One piece after another.
use Rattle.std.proofs.Common.{◌-◌, ◌++◌, codes, string_bytes}
use Rattle.otel_picture.specs.Durations.{duration_text}
use Rattle.otel_picture.specs.RowTexts.{errors_text, title_text}
use Rattle.otel_picture.specs.PlainSheets.{errors_in}
use Rattle.otel_picture.specs.Sheets.{plain_sheet}
use Rattle.otel_picture.proofs.Joined.{then_more}
use Rattle.otel_picture.proofs.sheet.Sheet.push_head.Goals as goal

pub returns : goal.returns
unfolding lib.Utf8.encode
returns c =
    let sheet = plain_sheet c.args.self.now in
    let length = duration_text (sheet.last - sheet.first) in
    let errors = errors_text (errors_in sheet) in
    let end = codes "\n" in
    then_more (string_bytes c.args.text.now) (string_bytes c.push_title.new.text) (string_bytes c.push.new.self)
    (title_text sheet) (length ++ (errors ++ end)) c.in_ok-push_title.ensures
    (then_more (string_bytes c.push_title.new.text) (string_bytes c.push_duration.new.out)
    (string_bytes c.push.new.self) length (errors ++ end) c.in_ok-push_duration.ensures
    (then_more (string_bytes c.push_duration.new.out) (string_bytes c.push_errors.new.text)
    (string_bytes c.push.new.self) errors end c.in_ok-push_errors.ensures c.in_ok-push.ensures.bytes))
