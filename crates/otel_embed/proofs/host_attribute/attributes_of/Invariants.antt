-- The attributes so far are meant by as many.
use Rattle.std.proofs.Common.{take}
use Rattle.otel_embed.specs.HostValues.{AreAttributesOf}
use Rattle.otel_embed.proofs.host_attribute.attributes_of.Given as goal

abbrev pub invariant-loop-attribute : goal.invariant-loop-attribute
invariant-loop-attribute l = AreAttributesOf (take l.attribute-index l.attributes) l.made.items
