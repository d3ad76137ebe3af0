-- One member after another.
use Rattle.std.proofs.Common.{[], ◌∷◌, ◌++◌, codes, ap}
use Rattle.opentelemetry.specs.PlainValues.{plain_status}
use Rattle.otel_otlp.specs.Fields.{fields_tokens}
use Rattle.otel_otlp.specs.OtlpSpan.{events_fields, links_fields, recording_fields, status_json}
use Rattle.otel_otlp.specs.OtlpValues.{attributes_fields}
use Rattle.otel_otlp.proofs.Adding.{and_fields, as_field, as_tokens}
use Rattle.otel_otlp.proofs.tokens.RequestWriter.recording.Goals as goal

pub returns : goal.returns
returns c =
    let span = c.span.inside in
    let attributes = attributes_fields span.attributes.items span.dropped_attributes_count in
    let events = events_fields span.events in
    let links = links_fields span.links in
    let json = status_json (plain_status span.status) in
    let status = (codes "status", json) ∷ [] in
    let dropped = span.dropped_attributes_count in
    let kept = ap (λ items. fields_tokens (attributes_fields items dropped)) c.deref.ensures.value in
    as_tokens (ap (λ span. fields_tokens (recording_fields span)) c.span.view_is)
    (and_fields attributes (events ++ (links ++ status)) (as_tokens kept c.in_ok-attributes.ensures)
    (and_fields events (links ++ status) c.in_ok-events.ensures
    (and_fields links status c.in_ok-links.ensures
    (as_field (codes "status") json c.in_ok-key.ensures c.status.ensures))))
