-- The characters so far were appended.
use Rattle.std.proofs.Common.{◌≡◌, ◌++◌, flat_map, string_bytes}
use Rattle.otel_picture.specs.Texts.{shown_char}
use Rattle.otel_picture.proofs.texts.push_shown.Given as goal

abbrev pub invariant-loop-c : goal.invariant-loop-c
invariant-loop-c l = string_bytes l.out ≡ string_bytes l.fn.out ++ flat_map shown_char l.yielded
