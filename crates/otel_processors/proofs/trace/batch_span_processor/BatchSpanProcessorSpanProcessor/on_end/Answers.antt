use Rattle.std.proofs.Common.{◌≡◌, ◌∙◌, true, false, sym}
use Rattle.otel_processors.specs.BatchProcessor.{ends_eagerly}
use Rattle.otel_processors.proofs.Queuing.{eager_ends, queue_ends}
use Rattle.otel_processors.proofs.trace.batch_span_processor.BatchSpanProcessorSpanProcessor.on_end.Goals as goal

pub returns-then-ends_eagerly-clause-gives : goal.returns-then-ends_eagerly-clause-gives
returns-then-ends_eagerly-clause-gives g c =
    let due : ends_eagerly c.args.self.now c.args.span ≡ true =
    sym c.ends_eagerly.ensures ∙ c.if-ends_eagerly.true in
    let ends = c.offer_eagerly-failed.ensures.ends in
    rw (← c.self.view_is, c.saturating_add-self-inside.ensures, ends.2) (eager_ends g.E.SpanExporter _ c.args.span ends.0
    c.offer_eagerly-failed.new.machine (rw (← c.self.view_is) at due) ends.1)

pub returns-clause-gives : goal.returns-clause-gives
returns-clause-gives g c =
    let plain : ends_eagerly c.args.self.now c.args.span ≡ false =
    sym c.ends_eagerly.ensures ∙ c.if-ends_eagerly.false in
    rw (← c.self.view_is) (queue_ends g.E.SpanExporter _ c.args.span c.offer_span.new.machine c.self.invariant
    (rw (← c.self.view_is) at plain) c.offer_span.ensures.offers)
