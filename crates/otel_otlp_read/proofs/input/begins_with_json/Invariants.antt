-- The lines so far are blank.
use Rattle.std.proofs.Common.{◌≡◌}
use Rattle.otel_otlp_read.specs.Inputs.{begins_with_json, lines_after, text_lines}
use Rattle.otel_otlp_read.proofs.LeftLines.{left, left_text}
use Rattle.otel_otlp_read.proofs.input.begins_with_json.Given as goal

abbrev pub invariant-loop-left : goal.invariant-loop-left
invariant-loop-left l = begins_with_json (lines_after (left_text l.left)) ≡ begins_with_json (text_lines l.text)

abbrev pub decreases-loop-left : goal.decreases-loop-left
decreases-loop-left l = left (left_text l.left)
