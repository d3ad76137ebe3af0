-- One link more.
use Rattle.std.proofs.Common.{string_bytes}
use Rattle.otel_picture.specs.SvgNotes.{link_note}
use Rattle.otel_picture.proofs.Joined.{one_item}
use Rattle.otel_picture.proofs.svg_notes.push_link_notes.Goals as goal

pub loop-link-preserved : goal.loop-link-preserved
loop-link-preserved c =
    one_item (link_note c.args.indent) (string_bytes c.args.out.now) (string_bytes c.loop-link.out)
    (string_bytes c.push_link_note.new.out) c.args.links.now c.loop-link.link-index c.link-item.result
    c.loop-link-test.true c.link-item.is c.loop-link.invariant c.in_ok-push_link_note.ensures
