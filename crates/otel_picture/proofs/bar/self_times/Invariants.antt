-- The times of the rows so far.
use Rattle.std.proofs.Common.{◌≡◌, ◌<◌, ◌+◌, ℕ, drop, get_or, vec_len}
use Rattle.otel_picture.specs.Bars.{self_time}
use Rattle.otel_picture.specs.declared.rows.Row.{Row}
use Rattle.otel_picture.proofs.bar.self_times.Given as goal

abbrev pub invariant-loop-at : goal.invariant-loop-at
invariant-loop-at l = record {
  alike : vec_len l.times ≡ l.at;
  each : (at : ℕ) (row : Row) → at < l.at
      → get_or l.times.items at 0 ≡ self_time l.marks (get_or l.rows at row) (drop (at + 1) l.rows);
}
