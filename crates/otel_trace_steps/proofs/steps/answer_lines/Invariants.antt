-- The lines so far were followed, each took a byte at least, and where nothing answers the text none of them spelled a
-- step.
use Rattle.std.proofs.Common.{ℕ, ◌+◌, ◌≤◌, [], Option, length}
use Rattle.std.specs.Str.Lines.{lines}
use Rattle.otel_trace_steps.specs.StepAnswers.{AnswersLines, ObeysEach}
use Rattle.otel_trace_steps.proofs.StepFollowing.{HasFollowed}
use Rattle.otel_trace_steps.proofs.steps.answer_lines.Given as goal

abbrev pub invariant-loop-line : goal.invariant-loop-line
invariant-loop-line l = record {
  followed : HasFollowed l.fn.machine l.machine l.text l.rest l.fn.out.items l.out.items l.number;
  room : l.number + length l.rest ≤ length l.text;
  silent : (bad_line : Option ℕ) → AnswersLines l.fn.machine l.text bad_line [] l.fn.machine → ObeysEach l.fn.machine l.number (lines l.rest) bad_line [] l.fn.machine;
}

abbrev pub decreases-loop-line : goal.decreases-loop-line
decreases-loop-line l = length l.rest
