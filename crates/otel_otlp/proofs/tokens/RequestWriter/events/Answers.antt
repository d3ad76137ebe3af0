-- A list, then a number.
use Rattle.std.proofs.Common.{[], ◌∷◌, codes, map, ap}
use Rattle.otel_otlp.specs.Fields.{fields_tokens, list_json, list_tokens}
use Rattle.otel_otlp.specs.OtlpSpan.{event_json, events_fields}
use Rattle.otel_otlp.specs.OtlpValues.{number_field}
use Rattle.otel_otlp.proofs.Adding.{and_fields, as_array, as_field, as_tokens}
use Rattle.otel_otlp.proofs.tokens.RequestWriter.events.Goals as goal

pub returns : goal.returns
returns c =
    let events = c.events.inside.events.items in
    let list = list_json event_json events in
    as_tokens (ap (λ events. fields_tokens (events_fields events)) c.events.view_is)
    (and_fields ((codes "events", list) ∷ [])
    (number_field (codes "droppedEventsCount") c.events.inside.dropped_count ∷ [])
    (as_field (codes "events") list c.in_ok-key.ensures
    (as_array (map event_json events) c.in_ok-begin_array.ensures
    (as_tokens (ap (list_tokens event_json) c.deref.ensures.value) c.in_ok-event_items.ensures)
    c.in_ok-end_array.ensures)) c.number_field.ensures)
