-- What takes the messages that are left has taken them all.
use Rattle.std.proofs.Common.{length}
use Rattle.otel_protobuf.specs.Progress.{Progress, TakesFields}
use Rattle.otel_protobuf.specs.Wire.{repeated}
use Rattle.otel_otlp_protobuf.proofs.message.repeated.Given as goal

abbrev pub invariant-loop-message : goal.invariant-loop-message
invariant-loop-message g l =
    (new : Progress) → TakesFields l.sink new (repeated l.number g.M.Message.fields l.rest)
    → TakesFields l.fn.sink new (repeated l.number g.M.Message.fields l.fn.messages)

abbrev pub decreases-loop-message : goal.decreases-loop-message
decreases-loop-message g l = length l.rest
