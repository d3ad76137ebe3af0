use Rattle.std.proofs.Common.{◌≡◌, ◌+◌, ◌*◌, ◌^◌, ◌≤◌, take}
use Rattle.std.specs.Str.Parse.{AllDigits, digits_value_after}
use Rattle.otel_sampling.proofs.trace.ratio.number_after.Given as goal

abbrev pub invariant-loop-digit : goal.invariant-loop-digit
invariant-loop-digit l = record {
  digits : AllDigits 10 (take l.digit-index l.digits);
  value : l.number ≡ digits_value_after 10 l.start (take l.digit-index l.digits);
  fits : l.number + 1 ≤ (l.start + 1) * 10 ^ l.digit-index;
}
