-- The first start and the last moment so far, and what comes of the marks that are left.
use Rattle.std.proofs.Common.{◌≡◌, ◌≤◌, drop}
use Rattle.otel_picture.specs.Bars.{earliest, last_of, latest}
use Rattle.otel_picture.proofs.bar.Scale.of.Given as goal

abbrev pub invariant-loop-mark : goal.invariant-loop-mark
invariant-loop-mark l = record {
  first : earliest l.first (drop l.mark-index l.marks) ≡ earliest 0 l.marks;
  last : latest l.last (drop l.mark-index l.marks) ≡ last_of l.marks;
  ordered : l.first ≤ l.last;
}
