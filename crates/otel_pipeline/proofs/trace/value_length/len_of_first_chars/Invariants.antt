use Rattle.std.proofs.Common.{◌≡◌, length}
use Rattle.std.specs.Str.{encode_utf8_all}
use Rattle.otel_pipeline.proofs.trace.value_length.len_of_first_chars.Given as goal

abbrev pub invariant-loop-c : goal.invariant-loop-c
invariant-loop-c l = l.len ≡ length (encode_utf8_all l.yielded)
