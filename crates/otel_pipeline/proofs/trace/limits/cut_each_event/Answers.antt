use Rattle.std.proofs.Common.{rules, arith}
use Rattle.otel_pipeline.specs.SpanHistory.{event_within}
use Rattle.otel_pipeline.proofs.Cutting.{changed_next}
use Rattle.otel_pipeline.proofs.EachLemmas.{rest_more}
use Rattle.otel_pipeline.proofs.trace.limits.cut_each_event.Goals as goal

pub loop-event-preserved : goal.loop-event-preserved
loop-event-preserved c = record {
  changed = changed_next (event_within c.args.limits) c.args.events.now c.loop-event.events c.loop-event.event-index c.event-item.result _ (omega arith) (search rules) c.loop-event.invariant.rest c.loop-event.invariant.changed (search rules);
  rest = rest_more c.args.events.now c.loop-event.events c.loop-event.event-index _ c.loop-event.invariant.rest;
}
