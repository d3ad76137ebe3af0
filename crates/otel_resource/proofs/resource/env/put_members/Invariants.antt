use Rattle.std.proofs.Common.{length}
use denote.Shadow.{shadow}
use denote.Text.{Utf8}
use Rattle.otel_resource.specs.Resource.{by_key}
use Rattle.otel_resource.proofs.AttributesStringLemmas.{ReadSoFar}
use Rattle.otel_resource.proofs.resource.env.put_members.Given as goal

abbrev pub invariant-members : goal.invariant-members
invariant-members l = shadow (Utf8 l.rest) × ReadSoFar l.fn.text l.rest (by_key l.fn.attributes) (by_key l.attributes)

abbrev pub decreases-members : goal.decreases-members
decreases-members l = length l.rest
