-- One event more.
use Rattle.std.proofs.Common.{string_bytes}
use Rattle.otel_picture.specs.SvgNotes.{event_note}
use Rattle.otel_picture.proofs.Joined.{one_item}
use Rattle.otel_picture.proofs.svg_notes.push_event_notes.Goals as goal

pub loop-event-preserved : goal.loop-event-preserved
loop-event-preserved c =
    one_item (event_note c.args.indent) (string_bytes c.args.out.now) (string_bytes c.loop-event.out)
    (string_bytes c.push_event_note.new.out) c.args.events.now c.loop-event.event-index c.event-item.result
    c.loop-event-test.true c.event-item.is c.loop-event.invariant c.in_ok-push_event_note.ensures
