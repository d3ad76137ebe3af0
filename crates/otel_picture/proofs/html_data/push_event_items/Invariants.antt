-- The events so far.
use Rattle.std.proofs.Common.{◌≡◌, ◌++◌, flat_map, take}
use Rattle.otel_picture.specs.HtmlRows.{event_tokens}
use Rattle.otel_picture.proofs.html_data.push_event_items.Given as goal

abbrev pub invariant-loop-event : goal.invariant-loop-event
invariant-loop-event l = record {
  before : l.out.before ≡ l.fn.out.before;
  written : l.out.tokens ≡ l.fn.out.tokens ++ flat_map event_tokens (take l.event-index l.events);
}
