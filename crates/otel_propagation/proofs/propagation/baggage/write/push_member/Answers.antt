use Rattle.std.proofs.Common.{◌++◌, string_bytes, ap, ◌∙◌}
use Rattle.std.proofs.lemmas.Result.{on_ok_weaker}
use Rattle.opentelemetry.specs.Baggage.{entry_of}
use Rattle.otel_propagation.specs.BaggageHeader.{after_semicolon}
use Rattle.otel_propagation.proofs.BaggageTextLemmas.{member_written}
use Rattle.otel_propagation.proofs.propagation.baggage.write.push_member.Goals as goal

pub returns-clause-text : goal.returns-clause-text
returns-clause-text c =
    on_ok_weaker c.push_metadata.result
    (λ written. member_written (entry_of c.args.name.now c.args.value.now c.args.metadata.now) (string_bytes c.args.header.now) _ _ _ _
    c.in_ok-push_escaped.ensures c.in_ok-push_str.ensures.bytes c.in_ok-push_escaped-2.ensures
    (written ∙ ap (λ t. string_bytes c.push_escaped-2.new.header ++ after_semicolon t) c.trim.ensures.trim))
    c.push_metadata.ensures
