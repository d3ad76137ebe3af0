-- The spans so far.
use Rattle.std.proofs.Common.{◌≡◌, ◌<◌, ℕ, false, get_or, length}
use Rattle.otel_picture.specs.Families.{comes_again}
use Rattle.otel_picture.proofs.families.repeats_of.Given as goal

abbrev pub invariant-loop-span : goal.invariant-loop-span
invariant-loop-span l = record {
  alike : length l.repeats.items ≡ length l.marks;
  each : (span : ℕ) → span < l.span → get_or l.repeats.items span false ≡ comes_again l.marks span;
}
