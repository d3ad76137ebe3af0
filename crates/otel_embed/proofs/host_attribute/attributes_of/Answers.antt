use Rattle.otel_embed.proofs.HostAttributes.{attributes_more}
use Rattle.otel_embed.proofs.host_attribute.attributes_of.Goals as goal

pub loop-attribute-preserved : goal.loop-attribute-preserved
loop-attribute-preserved c = attributes_more c.args.attributes.now c.loop-attribute.attribute-index _ _ _ _ c.loop-attribute-test.true
    c.loop-attribute.invariant c.in_ok-to_key_value.ensures c.in_ok-push.ensures.items
