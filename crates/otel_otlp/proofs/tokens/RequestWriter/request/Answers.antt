-- One object in a list.
use Rattle.std.proofs.Common.{[], ◌∷◌, codes, sym, append-nil}
use Rattle.json.specs.Tree.{json_tokens}
use Rattle.otel_otlp.specs.Fields.{list_json}
use Rattle.otel_otlp.specs.Otlp.{resource_spans_json}
use Rattle.otel_otlp.proofs.Adding.{as_array, as_field, as_object, as_tokens}
use Rattle.otel_otlp.proofs.tokens.RequestWriter.request.Goals as goal

pub returns : goal.returns
returns c =
    let json = resource_spans_json c.args.resource.now in
    let batch = c.args.batch.now in
    let list = list_json json (batch ∷ []) in
    as_object ((codes "resourceSpans", list) ∷ []) c.in_ok-begin_object.ensures
    (as_field (codes "resourceSpans") list c.in_ok-key.ensures
    (as_array (json batch ∷ []) c.in_ok-begin_array.ensures
    (as_tokens (sym (append-nil (json_tokens (json batch)))) c.in_ok-resource_spans.ensures)
    c.in_ok-end_array.ensures)) c.end_object.ensures
