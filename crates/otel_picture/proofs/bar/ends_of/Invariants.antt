-- Where the rows end under those from a row on.
use Rattle.std.proofs.Common.{◌≡◌, ◌<◌, ◌≤◌, ℕ, get_or, length, vec_len}
use Rattle.otel_picture.specs.Bars.{EndsAt}
use Rattle.otel_picture.proofs.bar.ends_of.Given as goal

abbrev pub invariant-loop-at : goal.invariant-loop-at
invariant-loop-at l = record {
  alike : vec_len l.ends ≡ length l.rows;
  within : l.at ≤ length l.rows;
  known : (row : ℕ) → l.at ≤ row → row < length l.rows → EndsAt l.rows row (get_or l.ends.items row 0);
}

abbrev pub decreases-loop-at : goal.decreases-loop-at
decreases-loop-at l = l.at
