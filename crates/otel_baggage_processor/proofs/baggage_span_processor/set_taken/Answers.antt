use Rattle.std.proofs.Common.{◌≡◌, true, map, sym, subst}
use Rattle.std.proofs.lemmas.List.{map_push}
use Rattle.opentelemetry.specs.Baggage.{PlainBaggage, PlainBaggageEntry, plain_item}
use Rattle.otel_baggage_processor.specs.BaggageEdits.{MakesBeginning, baggage_edits}
use Rattle.otel_baggage_processor.proofs.Beginnings.{entry_more, none_made}
use Rattle.otel_baggage_processor.proofs.baggage_span_processor.set_taken.Goals as goal

pub entries-init : goal.entries-init
entries-init g c = none_made c.args.span.now

pub entries-preserved-then-takes : goal.entries-preserved-then-takes
entries-preserved-then-takes g c =
    let entry : PlainBaggageEntry = plain_item (c.in-Some.key, (c.in-Some.value, c.in-Some.field-0-1-1)) in
    let taken : g.K.KeyFilter.takes c.args.keys.now entry.key ≡ true = cc (c.takes.ensures, c.if-takes.true) in
    subst
    (λ (read : PlainBaggage). MakesBeginning (baggage_edits (g.K.KeyFilter.takes c.args.keys.now) read)
    c.args.span.now c.set_or_count-left_out.new.span c.set_or_count-left_out.result)
    (sym (map_push plain_item c.entries.yielded (c.in-Some.key, (c.in-Some.value, c.in-Some.field-0-1-1))))
    (entry_more (g.K.KeyFilter.takes c.args.keys.now) (map plain_item c.entries.yielded) entry c.args.span.now
    c.entries.span c.set_or_count-left_out.new.span c.entries.left_out c.set_or_count-left_out.result taken
    c.entries.invariant c.set_or_count-left_out.ensures)
