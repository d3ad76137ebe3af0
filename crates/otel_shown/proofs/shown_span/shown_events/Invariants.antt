-- The events so far are in the list.
use Rattle.std.proofs.Common.{◌≡◌, map}
use Rattle.otel_shown.specs.Shown.{shown_event}
use Rattle.otel_shown.proofs.shown_span.shown_events.Given as goal

abbrev pub invariant-loop-event : goal.invariant-loop-event
invariant-loop-event l = l.events.items ≡ map shown_event l.yielded
