-- One part after another.
use Rattle.std.proofs.Common.{◌++◌, ◌∙◌, ap, codes, string_bytes}
use Rattle.otel_shown.specs.Shown.{PlainShownSpan}
use Rattle.otel_picture.specs.PlainSheets.{row_span}
use Rattle.otel_picture.specs.Sheets.{plain_sheet}
use Rattle.otel_picture.specs.SvgNotes.{svg_notes}
use Rattle.otel_picture.specs.SvgParts.{title_svg}
use Rattle.otel_picture.specs.SvgTexts.{svg_shapes, title_of}
use Rattle.otel_picture.proofs.Joined.{then_more}
use Rattle.otel_picture.proofs.sheet.Sheet.push_svg_row.Goals as goal

pub returns : goal.returns
returns c =
    let sheet = plain_sheet c.args.self.now in
    let title = title_svg (title_of (row_span sheet c.args.row)) in
    let shapes = svg_shapes sheet c.args.line c.args.row in
    let notes = svg_notes sheet c.args.line c.args.row in
    let end = string_bytes c.push_str-2.new.self in
    let after = codes "</g>\n" in
    then_more (string_bytes c.args.out.now) (string_bytes c.push_str.new.self) end (codes "<g>")
    (title ++ (shapes ++ (notes ++ after))) c.in_ok-push_str.ensures.bytes
    (then_more (string_bytes c.push_str.new.self) (string_bytes c.push_title.new.out) end title
    (shapes ++ (notes ++ after))
    (c.in_ok-push_title.ensures
    ∙ ap (λ t. string_bytes c.push_str.new.self ++ title_svg t) (c.as_str.ensures.value ∙ c.in_ok-title.ensures)
    ∙ ap (λ (s : PlainShownSpan). string_bytes c.push_str.new.self ++ title_svg (title_of s)) c.span_of.ensures)
    (then_more (string_bytes c.push_title.new.out) (string_bytes c.push_svg_shapes.new.out) end shapes
    (notes ++ after) c.in_ok-push_svg_shapes.ensures
    (then_more (string_bytes c.push_svg_shapes.new.out) (string_bytes c.push_svg_notes.new.out) end notes after
    c.in_ok-push_svg_notes.ensures c.in_ok-push_str-2.ensures.bytes)))
