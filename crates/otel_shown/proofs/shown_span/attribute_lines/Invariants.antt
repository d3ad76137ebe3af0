-- The lines of the attributes so far are written.
use Rattle.std.proofs.Common.{◌≡◌, take, string_bytes}
use Rattle.otel_shown.specs.Shown.{attribute_lines}
use Rattle.otel_shown.proofs.shown_span.attribute_lines.Given as goal

abbrev pub invariant-loop-attribute : goal.invariant-loop-attribute
invariant-loop-attribute l = string_bytes l.text ≡ attribute_lines (take l.attribute-index l.attributes)
