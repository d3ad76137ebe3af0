use Rattle.std.proofs.Common.{◌≡◌, ◌+◌, ◌-◌, ◌^◌, min, length, ap, ◌∙◌, arith}
use Rattle.std.specs.Str.{trim}
use Rattle.opentelemetry.specs.Baggage.{entry_of}
use Rattle.otel_propagation.specs.BaggageHeader.{after_semicolon, escaped}
use Rattle.otel_propagation.proofs.BaggageTextLemmas.{length-member_of}
use Rattle.otel_propagation.proofs.propagation.baggage.write.member_len.Goals as goal

pub returns : goal.returns
returns c =
    let all = length-member_of (entry_of c.args.name.now c.args.value.now c.args.metadata.now) in
    let name : c.escaped_len.result ≡ min (length (escaped c.args.name.now)) (2 ^ 64 - 1) = c.escaped_len.ensures in
    let value : c.escaped_len-2.result ≡ min (length (escaped c.args.value.now)) (2 ^ 64 - 1) = c.escaped_len-2.ensures in
    let metadata : c.metadata_len.result ≡ min (length (after_semicolon (trim c.args.metadata.now))) (2 ^ 64 - 1) = c.metadata_len.ensures ∙ ap (λ t. min (length (after_semicolon t)) (2 ^ 64 - 1)) c.trim.ensures.trim in
    let first : c.saturating_add.result ≡ min (c.escaped_len.result + 1) (2 ^ 64 - 1) = c.saturating_add.ensures in
    let second : c.saturating_add-2.result ≡ min (c.saturating_add.result + c.escaped_len-2.result) (2 ^ 64 - 1) = c.saturating_add-2.ensures in
    let third : c.saturating_add-3.result ≡ min (c.saturating_add-2.result + c.metadata_len.result) (2 ^ 64 - 1) = c.saturating_add-3.ensures in
    omega arith
