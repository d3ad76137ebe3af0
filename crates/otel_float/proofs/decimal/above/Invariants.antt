use Rattle.std.proofs.Common.{◌≡◌, ◌-◌, ◌*◌, ◌^◌, ◌≤◌}
use Rattle.otel_float.proofs.decimal.above.Given as goal

abbrev pub invariant-digits : goal.invariant-digits
invariant-digits l = record {
  power : l.power ≡ 10 ^ l.count;
  least : l.power ≤ l.number * 10;
  some : 1 ≤ l.count;
  few : l.count ≤ 9;
}

abbrev pub decreases-digits : goal.decreases-digits
decreases-digits l = 10 - l.count
