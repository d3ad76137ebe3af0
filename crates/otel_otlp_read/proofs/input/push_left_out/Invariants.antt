-- What was left out so far is named.
use Rattle.std.proofs.Common.{◌≡◌, ◌++◌, map, take}
use Rattle.otel_otlp_read.specs.Inputs.{left_fault}
use Rattle.otel_otlp_read.proofs.input.push_left_out.Given as goal

abbrev pub invariant-loop-left : goal.invariant-loop-left
invariant-loop-left l =
    l.faults.items ≡ l.initial.faults.items ++ map (left_fault l.line) (take l.left-index l.left_out)
