-- One event more.
use Rattle.std.proofs.Common.{string_bytes}
use Rattle.otel_picture.specs.Details.{event_text}
use Rattle.otel_picture.proofs.Joined.{one_item}
use Rattle.otel_picture.proofs.details.Under.push_events.Goals as goal

pub loop-event-preserved : goal.loop-event-preserved
loop-event-preserved c =
    one_item (event_text c.args.self) (string_bytes c.args.text.now) (string_bytes c.loop-event.text)
    (string_bytes c.push_event.new.text) c.args.events.now c.loop-event.event-index c.event-item.result
    c.loop-event-test.true c.event-item.is c.loop-event.invariant c.in_ok-push_event.ensures
