use Rattle.std.proofs.Common.{All, map}
use Rattle.otel_trace_run.specs.GivenAttributes.{ReadsMember}
use Rattle.otel_trace_run.proofs.given_attributes.first_unread.Given as goal

abbrev pub invariant-members : goal.invariant-members
invariant-members l = All ReadsMember (map (λ x. x.now) l.yielded)
