-- The characters so far were appended.
use Rattle.std.proofs.Common.{◌≡◌, ◌++◌, string_bytes}
use Rattle.otel_picture.specs.Texts.{escaped_text}
use Rattle.otel_picture.proofs.texts.push_escaped.Given as goal

abbrev pub invariant-loop-c : goal.invariant-loop-c
invariant-loop-c l = string_bytes l.out ≡ string_bytes l.fn.out ++ escaped_text l.yielded
