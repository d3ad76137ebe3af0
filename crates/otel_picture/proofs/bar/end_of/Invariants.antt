-- The rows so far are under the row.
use Rattle.std.proofs.Common.{◌<◌, ◌≤◌, ◌-◌, ℕ, get_or, length}
use Rattle.otel_picture.specs.declared.rows.Row.{Row}
use Rattle.otel_picture.proofs.bar.end_of.Given as goal

abbrev pub invariant-loop-end : goal.invariant-loop-end
invariant-loop-end l = record {
  after : l.at < l.end;
  within : l.end ≤ length l.rows;
  under : (row : ℕ) (e : Row) → l.at < row → row < l.end → l.level < (get_or l.rows row e).level;
}

abbrev pub decreases-loop-end : goal.decreases-loop-end
decreases-loop-end l = length l.rows - l.end
