-- One shape after another.
use Rattle.std.proofs.Common.{◌++◌, ◌∙◌, ap, string_bytes}
use Rattle.std.specs.List.{flat_map}
use Rattle.otel_shown.specs.Shown.{PlainShownSpan}
use Rattle.otel_picture.specs.PlainSheets.{row_span}
use Rattle.otel_picture.specs.Sheets.{plain_sheet}
use Rattle.otel_picture.specs.SvgTexts.{event_svg, svg_bar, svg_name, svg_numbers, svg_sign}
use Rattle.otel_picture.proofs.Joined.{then_more}
use Rattle.otel_picture.proofs.sheet.Sheet.push_svg_shapes.Goals as goal

pub returns : goal.returns
returns c =
    let sheet = plain_sheet c.args.self.now in
    let line = c.args.line in
    let row = c.args.row in
    let span = row_span sheet row in
    let is = c.span_of-span.ensures in
    let events = flat_map (event_svg sheet line) span.events in
    let numbers = svg_numbers sheet line row in
    let end = string_bytes c.push_svg_numbers.new.out in
    let bar = svg_bar sheet line span in
    let sign = svg_sign sheet line span in
    then_more (string_bytes c.args.out.now) (string_bytes c.push_svg_name.new.out) end (svg_name sheet line row)
    (sign ++ (bar ++ (events ++ numbers))) c.in_ok-push_svg_name.ensures
    (then_more (string_bytes c.push_svg_name.new.out) (string_bytes c.push_svg_sign.new.out) end sign
    (bar ++ (events ++ numbers))
    (c.in_ok-push_svg_sign.ensures
    ∙ ap (λ (s : PlainShownSpan). string_bytes c.push_svg_name.new.out ++ svg_sign sheet line s) is)
    (then_more (string_bytes c.push_svg_sign.new.out) (string_bytes c.push_svg_bar.new.out) end bar
    (events ++ numbers)
    (c.in_ok-push_svg_bar.ensures
    ∙ ap (λ (s : PlainShownSpan). string_bytes c.push_svg_sign.new.out ++ svg_bar sheet line s) is)
    (then_more (string_bytes c.push_svg_bar.new.out) (string_bytes c.push_events.new.out) end events numbers
    (c.in_ok-push_events.ensures
    ∙ ap (λ (s : PlainShownSpan). string_bytes c.push_svg_bar.new.out ++ flat_map (event_svg sheet line) s.events) is)
    c.in_ok-push_svg_numbers.ensures)))
