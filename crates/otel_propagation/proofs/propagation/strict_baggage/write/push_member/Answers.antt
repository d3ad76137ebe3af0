use Rattle.std.proofs.Common.{◌++◌, string_bytes, ap, ◌∙◌}
use Rattle.std.proofs.lemmas.Result.{on_ok_weaker}
use Rattle.opentelemetry.specs.Baggage.{entry_of}
use Rattle.otel_propagation.proofs.StrictWrites.{member_written, written_value_is}
use Rattle.otel_propagation.proofs.propagation.strict_baggage.write.push_member.Goals as goal

pub returns : goal.returns
returns c =
    let value = c.in_ok-append_to.ensures.ok ∙ ap (λ t. string_bytes c.push_str-2.new.self ++ t) (c.utf8_percent_encode.ensures.text ∙ written_value_is c.args.value.now) in
    on_ok_weaker c.push_properties.result
    (λ written. member_written (entry_of c.args.name.now c.args.value.now c.args.metadata.now) (string_bytes c.args.header.now) _ _ _ _
    c.in_ok-push_str.ensures.bytes c.in_ok-push_str-2.ensures.bytes value written)
    c.push_properties.ensures
