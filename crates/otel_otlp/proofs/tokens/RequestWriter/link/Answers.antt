-- One member after another.
use Rattle.std.proofs.Common.{Bool, List, [], ◌∷◌, ◌++◌, codes, ap}
use Rattle.json.specs.Tree.{json_tokens}
use Rattle.otel_otlp.specs.Fields.{Field, fields_tokens}
use Rattle.otel_otlp.specs.OtlpSpan.{context_fields, flags_of, link_json}
use Rattle.otel_otlp.specs.OtlpValues.{attributes_fields, number_field}
use Rattle.otel_otlp.proofs.Adding.{and_fields, as_object, as_tokens}
use Rattle.otel_otlp.proofs.tokens.RequestWriter.link.Goals as goal

pub returns : goal.returns
returns c =
    let link = c.link.inside in
    let context = context_fields link.span_context in
    let attributes = attributes_fields link.attributes.items link.dropped_attributes_count in
    let flags_where : Bool → List Field =
    λ remote. number_field (codes "flags") (flags_of link.span_context.trace_flags remote) ∷ [] in
    let flags = flags_where link.span_context.is_remote in
    let flagged = ap (λ remote. fields_tokens (flags_where remote)) c.is_remote.ensures in
    let dropped = link.dropped_attributes_count in
    let kept = ap (λ items. fields_tokens (attributes_fields items dropped)) c.deref.ensures.value in
    as_tokens (ap (λ link. json_tokens (link_json link)) c.link.view_is)
    (as_object (context ++ (attributes ++ flags)) c.in_ok-begin_object.ensures
    (and_fields context (attributes ++ flags) c.in_ok-context.ensures
    (and_fields attributes flags (as_tokens kept c.in_ok-attributes.ensures)
    (as_tokens flagged c.in_ok-flags.ensures))) c.end_object.ensures)
