-- One member after another.
use Rattle.std.proofs.Common.{[], ◌∷◌, codes, ap, string_bytes}
use Rattle.json.specs.Tree.{json_tokens}
use Rattle.otel_otlp.specs.Fields.{fields_tokens}
use Rattle.otel_otlp.specs.OtlpSpan.{event_json}
use Rattle.otel_otlp.specs.OtlpValues.{attributes_fields, moment_field, text_field}
use Rattle.otel_otlp.proofs.Adding.{and_fields, as_object, as_tokens}
use Rattle.otel_otlp.proofs.tokens.RequestWriter.event.Goals as goal

pub returns : goal.returns
returns c =
    let event = c.event.inside in
    let attributes = attributes_fields event.attributes.items event.dropped_attributes_count in
    let time = moment_field (codes "timeUnixNano") event.timestamp.0 in
    let name = text_field (codes "name") (string_bytes event.name) in
    let named = ap (λ text. fields_tokens (text_field (codes "name") text ∷ [])) c.as_str.ensures.value in
    let dropped = event.dropped_attributes_count in
    let kept = ap (λ items. fields_tokens (attributes_fields items dropped)) c.deref.ensures.value in
    as_tokens (ap (λ event. json_tokens (event_json event)) c.event.view_is)
    (as_object (time ∷ name ∷ attributes) c.in_ok-begin_object.ensures
    (and_fields (time ∷ []) (name ∷ attributes) c.in_ok-moment_field.ensures
    (and_fields (name ∷ []) attributes (as_tokens named c.in_ok-text_field.ensures)
    (as_tokens kept c.in_ok-attributes.ensures))) c.end_object.ensures)
