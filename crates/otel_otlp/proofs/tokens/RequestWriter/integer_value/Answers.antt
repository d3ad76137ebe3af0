-- One token after another.
use Rattle.std.proofs.Common.{[], ◌∷◌, ap}
use Rattle.std.proofs.Math.Facts.{to_z-of_z}
use Rattle.std.specs.Fmt.{signed_decimal}
use Rattle.json.specs.Token.{Token}
use Rattle.otel_otlp.proofs.Adding.{and_then, as_tokens}
use Rattle.otel_otlp.proofs.tokens.RequestWriter.integer_value.Goals as goal

pub returns : goal.returns
returns c =
    let number = ap (λ n. Token.string (signed_decimal n) ∷ []) (to_z-of_z c.ranges.number) in
    and_then c.in_ok-begin_object.ensures (and_then c.in_ok-key.ensures
    (and_then (as_tokens number c.in_ok-integer.ensures) c.end_object.ensures))
