use Rattle.std.proofs.Common.{◌≡◌, take, drop, map}
use Rattle.otel_pipeline.specs.SpanHistory.{event_within}
use Rattle.otel_pipeline.proofs.trace.limits.cut_each_event.Given as goal

abbrev pub invariant-loop-event : goal.invariant-loop-event
invariant-loop-event l = record {
  changed : take l.event-index l.events ≡ map (event_within l.fn.limits) (take l.event-index l.fn.events);
  rest : drop l.event-index l.events ≡ drop l.event-index l.fn.events;
}
