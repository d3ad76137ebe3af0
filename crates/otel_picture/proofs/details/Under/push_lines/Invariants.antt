-- The lines so far, and those that are left.
use Rattle.std.proofs.Common.{◌≡◌, ◌++◌, length, drop, flat_map, string_bytes}
use Rattle.otel_picture.specs.Details.{attribute_text, lines_in}
use Rattle.otel_picture.proofs.details.Under.push_lines.Given as goal

abbrev pub invariant-loop-line : goal.invariant-loop-line
invariant-loop-line l =
    string_bytes l.text ++ flat_map (attribute_text l.self) (drop (length l.yielded) (lines_in l.attributes))
    ≡ string_bytes l.fn.text ++ flat_map (attribute_text l.self) (lines_in l.attributes)
