use Rattle.std.proofs.Common.{map}
use Rattle.opentelemetry.specs.Baggage.{plain_item}
use Rattle.otel_baggage_processor.specs.BaggageEdits.{MakesBeginning, baggage_edits}
use Rattle.otel_baggage_processor.proofs.baggage_span_processor.set_taken.Given as goal

abbrev pub invariant-entries : goal.invariant-entries
invariant-entries g l =
    MakesBeginning (baggage_edits (g.K.KeyFilter.takes l.keys) (map plain_item l.yielded)) l.fn.span l.span l.left_out
