-- What comes of the rows that are left.
use Rattle.std.proofs.Common.{◌≡◌, ◌≤◌, ◌-◌, drop, length}
use Rattle.otel_picture.specs.Bars.{sweep_rows}
use Rattle.otel_picture.proofs.bar.sweep_rows.Given as goal

abbrev pub invariant-loop-at : goal.invariant-loop-at
invariant-loop-at l = record {
  is : sweep_rows l.marks l.level l.end l.sweep (drop l.at l.rows)
      ≡ sweep_rows l.marks l.level l.end l.fn.begun (drop l.from l.rows);
  within : l.sweep.until ≤ l.end;
  fits : l.sweep.free ≤ l.sweep.until;
}

abbrev pub decreases-loop-at : goal.decreases-loop-at
decreases-loop-at l = length l.rows - l.at
