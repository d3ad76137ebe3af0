use Rattle.std.proofs.Common.{◌≡◌, ◌^◌, ◌<◌, take}
use Rattle.std.specs.List.{All}
use Rattle.opentelemetry.specs.Hex.{hex_text, IsHexDigit}
use Rattle.opentelemetry.proofs.trace_context.number_from_hex.Given as goal

abbrev pub invariant-loop-digit : goal.invariant-loop-digit
invariant-loop-digit l = record {
  fits : l.number < 16 ^ l.digit-index;
  read : take l.digit-index l.digits ≡ hex_text l.digit-index l.number;
  digits : All IsHexDigit (take l.digit-index l.digits);
}
