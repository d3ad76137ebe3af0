use Rattle.std.proofs.Common.{◌≡◌, [], map}
use Rattle.opentelemetry.specs.Members.{HasNo, equals_sign}
use Rattle.otel_propagation.proofs.MemberBounds.{IsReadFrom}
use Rattle.otel_propagation.proofs.propagation.members.entries_of.Given as goal

abbrev pub invariant-members : goal.invariant-members
invariant-members g l =
    (IsReadFrom g.M.ReadsMembers.says (map (λ x. x.now) l.yielded) l.baggage) × (HasNo equals_sign l.header → l.baggage ≡ [])
