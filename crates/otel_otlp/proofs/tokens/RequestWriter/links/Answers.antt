-- A list, then a number.
use Rattle.std.proofs.Common.{[], ◌∷◌, codes, map, ap}
use Rattle.otel_otlp.specs.Fields.{fields_tokens, list_json, list_tokens}
use Rattle.otel_otlp.specs.OtlpSpan.{link_json, links_fields}
use Rattle.otel_otlp.specs.OtlpValues.{number_field}
use Rattle.otel_otlp.proofs.Adding.{and_fields, as_array, as_field, as_tokens}
use Rattle.otel_otlp.proofs.tokens.RequestWriter.links.Goals as goal

pub returns : goal.returns
returns c =
    let links = c.links.inside.links.items in
    let list = list_json link_json links in
    as_tokens (ap (λ links. fields_tokens (links_fields links)) c.links.view_is)
    (and_fields ((codes "links", list) ∷ [])
    (number_field (codes "droppedLinksCount") c.links.inside.dropped_count ∷ [])
    (as_field (codes "links") list c.in_ok-key.ensures
    (as_array (map link_json links) c.in_ok-begin_array.ensures
    (as_tokens (ap (list_tokens link_json) c.deref.ensures.value) c.in_ok-link_items.ensures)
    c.in_ok-end_array.ensures)) c.number_field.ensures)
