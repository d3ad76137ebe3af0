-- One part after another.
use Rattle.std.proofs.Common.{◌++◌, string_bytes}
use Rattle.otel_picture.specs.Sheets.{plain_sheet}
use Rattle.otel_picture.specs.SvgParts.{down, label_svg}
use Rattle.otel_picture.specs.SvgTexts.{svg_axis, svg_head, svg_lines, svg_service}
use Rattle.otel_picture.proofs.Joined.{then_more}
use Rattle.otel_picture.proofs.sheet.Sheet.push_svg_trace.Goals as goal

pub returns : goal.returns
returns c =
    let sheet = plain_sheet c.args.self.now in
    let line = c.args.line in
    let service = svg_service sheet line in
    let axis = svg_axis sheet line in
    let lines = svg_lines sheet line in
    let end = string_bytes c.push_svg_lines.new.out in
    then_more (string_bytes c.args.out.now) (string_bytes c.push_svg_head.new.out) end
    (label_svg 10 (down line 15) (svg_head sheet)) (service ++ (axis ++ lines)) c.in_ok-push_svg_head.ensures
    (then_more (string_bytes c.push_svg_head.new.out) (string_bytes c.push_svg_service.new.out) end service
    (axis ++ lines) c.in_ok-push_svg_service.ensures
    (then_more (string_bytes c.push_svg_service.new.out) (string_bytes c.push_svg_axis.new.out) end axis lines
    c.in_ok-push_svg_axis.ensures c.in_ok-push_svg_lines.ensures))
