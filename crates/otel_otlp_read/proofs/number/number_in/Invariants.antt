-- The digits so far spell the number, and there is room for one more.
use Rattle.std.proofs.Common.{◌≡◌, ◌^◌, ◌<◌, drop}
use Rattle.otel_otlp_read.specs.Numbers.{digits_after}
use Rattle.otel_otlp_read.proofs.number.number_in.Given as goal

abbrev pub invariant-loop-digit : goal.invariant-loop-digit
invariant-loop-digit l = record {
  fits : l.number < 16 ^ l.digit-index;
  read : digits_after l.radix l.number (drop l.digit-index l.digits) ≡ digits_after l.radix 0 l.digits;
}
