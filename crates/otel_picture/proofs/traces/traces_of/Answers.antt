-- One trace more.
use Rattle.std.proofs.Common.{◌<◌, ◌++◌, ◌∷◌, [], ◌∙◌, ap, arith, get_or, length, map, subst, sym, take}
use Rattle.std.specs.List.{AllZip}
use Rattle.std.proofs.lemmas.List.{map-append, take_more}
use Rattle.std.proofs.lemmas.List.Elements.{All-same}
use Rattle.otel_picture.specs.Families.{is_of, places_below, trace_ids}
use Rattle.otel_picture.specs.Traces.{IsTraceOf, plain_trace}
use Rattle.otel_picture.specs.declared.families.Group.{Group}
use Rattle.otel_picture.proofs.Grouping.{are_below}
use Rattle.otel_picture.proofs.Zipped.{of_group}
use Rattle.otel_resource.proofs.AttributeLemmas.{all_zip_push}
use Rattle.otel_picture.proofs.traces.traces_of.Goals as goal

pub trace_of-requires : goal.trace_of-requires
trace_of-requires c =
    let spans = c.args.spans.now in
    let index = c.loop-group.group-index in
    let groups = c.in_ok-groups.groups.items in
    let read = rw c.deref-group-items.ensures.value at c.group-item.is in
    let below = rw c.deref-group-items.ensures.value at c.loop-group-test.true in
    let id = get_or (trace_ids spans) index 0 in
    let group = c.in_ok-groups.ensures.each index c.group-item.result
    (omega (arith, below, c.in_ok-groups.ensures.alike)) in
    All-same (λ place. place < length spans) c.group-item.result.places.items (places_below (is_of spans id) (length spans))
    (ap (λ (g : Group). g.places.items) read ∙ group.places_are) (are_below (is_of spans id) (length spans))

pub loop-group-preserved : goal.loop-group-preserved
loop-group-preserved c =
    let spans = c.args.spans.now in
    let index = c.loop-group.group-index in
    let ids = trace_ids spans in
    let read = rw c.deref-group-items.ensures.value at c.group-item.is in
    let below = rw c.deref-group-items.ensures.value at c.loop-group-test.true in
    let there : index < length ids = omega (arith, below, c.in_ok-groups.ensures.alike) in
    let id = get_or ids index 0 in
    let group = c.in_ok-groups.ensures.each index c.group-item.result there in
    let trace = plain_trace c.in_ok-trace_of.field-0 in
    let one = of_group spans id c.group-item.result.trace_id (places_below (is_of spans id) (length spans))
    c.group-item.result.places.items trace (ap (λ (g : Group). g.trace_id) read ∙ group.trace_is)
    (ap (λ (g : Group). g.places.items) read ∙ group.places_are) c.in_ok-trace_of.ensures in
    subst (λ xs. AllZip (IsTraceOf spans) xs (map plain_trace c.push.new.self.items)) (sym (take_more ids index 0 there))
    (subst (AllZip (IsTraceOf spans) (take index ids ++ id ∷ []))
    (sym (ap (map plain_trace) c.in_ok-push.ensures.items
    ∙ map-append plain_trace c.loop-group.traces.items (c.in_ok-trace_of.field-0 ∷ [])))
    (all_zip_push (IsTraceOf spans) (take index ids) (map plain_trace c.loop-group.traces.items) id trace
    c.loop-group.invariant one))
