-- The characters so far are shown, each in four bytes at most.
use Rattle.std.proofs.Common.{◌≡◌, ◌≤◌, ◌*◌, flat_map, length}
use Rattle.otel_otlp_http.specs.Reasons.{shown_char}
use Rattle.otel_otlp_http.proofs.reason.shown.Given as goal

abbrev pub invariant-loop-c : goal.invariant-loop-c
invariant-loop-c l = record {
  text : l.out.bytes ≡ flat_map shown_char l.yielded;
  short : length l.out.bytes ≤ 4 * length l.yielded;
}
