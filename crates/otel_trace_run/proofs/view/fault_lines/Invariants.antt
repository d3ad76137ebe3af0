-- The lines so far.
use Rattle.std.proofs.Common.{◌≡◌, string_bytes, take}
use Rattle.otel_trace_run.specs.Views.{fault_lines}
use Rattle.otel_trace_run.proofs.view.fault_lines.Given as goal

abbrev pub invariant-loop-fault : goal.invariant-loop-fault
invariant-loop-fault l = string_bytes l.said ≡ fault_lines (take l.fault-index l.found)
