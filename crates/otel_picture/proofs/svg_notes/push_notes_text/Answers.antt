-- One part after another.
use Rattle.std.proofs.Common.{◌++◌, codes, string_bytes}
use Rattle.otel_picture.specs.SvgNotes.{notes_head, notes_svg, notes_text}
use Rattle.otel_picture.proofs.Joined.{then_more}
use Rattle.otel_picture.proofs.svg_notes.push_notes_text.Goals as goal

pub returns : goal.returns
unfolding notes_svg
returns c =
    let end = string_bytes c.push_str.new.self in
    let notes = notes_text c.args.indent c.args.odd c.args.span.now in
    then_more (string_bytes c.args.out.now) (string_bytes c.push_notes_head.new.out) end (notes_head c.args.y)
    (notes ++ codes "</text>") c.in_ok-push_notes_head.ensures
    (then_more (string_bytes c.push_notes_head.new.out) (string_bytes c.push_notes.new.out) end notes (codes "</text>")
    c.in_ok-push_notes.ensures c.in_ok-push_str.ensures.bytes)
