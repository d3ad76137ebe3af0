-- The lines that were passed, and those that are left.
use Rattle.std.proofs.Common.{◌≡◌, ◌+◌, ◌++◌, List, ℕ, length}
use Rattle.std.specs.Str.Lines.{lines}
use Rattle.otel_trace_run.proofs.reason.line_at.Given as goal

abbrev pub invariant-loop-line : goal.invariant-loop-line
invariant-loop-line l = (before : List (List ℕ)) × (lines l.text ≡ before ++ lines l.rest)
    × (length before + l.left ≡ l.fn.number) × (l.left ≡ 0 → l.fn.number ≡ 0)

abbrev pub decreases-loop-line : goal.decreases-loop-line
decreases-loop-line l = length l.rest
