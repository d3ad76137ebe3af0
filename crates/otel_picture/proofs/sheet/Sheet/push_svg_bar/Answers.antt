-- The class, and then the place, by the columns of start and end.
use Rattle.std.proofs.Common.{◌≡◌, ◌+◌, ◌-◌, ◌++◌, ◌∙◌, ap, codes, max, string_bytes}
use Rattle.otel_shown.specs.Shown.{PlainShownSpan}
use Rattle.otel_picture.specs.Bars.{column}
use Rattle.otel_picture.specs.Families.{begin_of}
use Rattle.otel_picture.specs.PlainSheets.{sheet_column}
use Rattle.otel_picture.specs.Sheets.{plain_sheet}
use Rattle.otel_picture.specs.SvgParts.{down, place_svg}
use Rattle.otel_picture.specs.SvgTexts.{class_text}
use Rattle.otel_picture.proofs.Joined.{then_more}
use Rattle.otel_picture.proofs.sheet.Sheet.push_svg_bar.Goals as goal

pub returns : goal.returns
returns c =
    let span = c.args.span.now in
    let line = c.args.line in
    let bar = c.bar-bar.result in
    let sheet = plain_sheet c.args.self.now in
    let scale = c.args.self.now.scale in
    let begin = sheet_column sheet (begin_of span) in
    let over = sheet_column sheet (max (begin_of span) span.end_time) in
    let from : bar.begin ≡ begin =
    c.bar-bar.ensures.begin ∙ ap (λ n. column scale.first scale.last n c.begin_of-begin.result) c.args.self.now.bars
    ∙ ap (λ n. sheet_column sheet n) c.begin_of-begin.ensures in
    let to : bar.end ≡ over =
    c.bar-bar.ensures.end
    ∙ ap (λ n. column scale.first scale.last n (max c.begin_of-begin.result c.span.inside.end_time.0)) c.args.self.now.bars
    ∙ ap (λ n. sheet_column sheet (max n c.span.inside.end_time.0)) c.begin_of-begin.ensures
    ∙ ap (λ (s : PlainShownSpan). sheet_column sheet (max (begin_of span) s.end_time)) c.span.view_is in
    let end = string_bytes c.push_bar_place.new.out in
    let so_far = string_bytes c.push_class.new.out in
    then_more (string_bytes c.args.out.now) (string_bytes c.push_str.new.self) end (codes "<rect class=\"")
    (class_text span ++ place_svg (310 + begin) (down line 4) (over - begin + 1)) c.in_ok-push_str.ensures.bytes
    (then_more (string_bytes c.push_str.new.self) so_far end (class_text span)
    (place_svg (310 + begin) (down line 4) (over - begin + 1)) c.in_ok-push_class.ensures
    (c.in_ok-push_bar_place.ensures
    ∙ ap (λ n. so_far ++ place_svg (310 + n) (down line 4) (bar.end - n + 1)) from
    ∙ ap (λ n. so_far ++ place_svg (310 + begin) (down line 4) (n - begin + 1)) to))
