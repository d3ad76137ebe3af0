-- The events so far.
use Rattle.std.proofs.Common.{◌≡◌, ◌++◌, flat_map, string_bytes, take}
use Rattle.otel_picture.specs.SvgNotes.{event_note}
use Rattle.otel_picture.proofs.svg_notes.push_event_notes.Given as goal

abbrev pub invariant-loop-event : goal.invariant-loop-event
invariant-loop-event l =
    string_bytes l.out ≡ string_bytes l.fn.out ++ flat_map (event_note l.indent) (take l.event-index l.events)
