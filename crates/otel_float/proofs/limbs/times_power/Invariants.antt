use Rattle.std.proofs.Common.{◌≡◌, ◌+◌, ◌*◌, ◌^◌, ◌≤◌}
use Rattle.otel_float.specs.Limbs.{AreInUse, AreLimbs, value_of}
use Rattle.otel_float.proofs.limbs.times_power.Given as goal

abbrev pub invariant-loop-turn : goal.invariant-loop-turn
invariant-loop-turn l = record {
  value : value_of l.limbs l.used ≡ value_of l.fn.limbs l.len * l.base ^ (l.step * l._turn);
  limbs : AreLimbs l.limbs;
  in_use : AreInUse l.limbs l.used;
  few : l.used ≤ l.len + l._turn;
}
