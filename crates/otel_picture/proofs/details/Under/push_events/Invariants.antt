-- The events so far.
use Rattle.std.proofs.Common.{◌≡◌, ◌++◌, flat_map, string_bytes, take}
use Rattle.otel_picture.specs.Details.{event_text}
use Rattle.otel_picture.proofs.details.Under.push_events.Given as goal

abbrev pub invariant-loop-event : goal.invariant-loop-event
invariant-loop-event l =
    string_bytes l.text ≡ string_bytes l.fn.text ++ flat_map (event_text l.self) (take l.event-index l.events)
