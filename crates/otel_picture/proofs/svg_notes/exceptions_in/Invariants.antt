-- How many of those so far are exceptions.
use Rattle.std.proofs.Common.{◌≡◌, take}
use Rattle.otel_picture.specs.SvgNotes.{exceptions_in}
use Rattle.otel_picture.proofs.svg_notes.exceptions_in.Given as goal

abbrev pub invariant-loop-event : goal.invariant-loop-event
invariant-loop-event l = l.exceptions ≡ exceptions_in (take l.event-index l.events)
