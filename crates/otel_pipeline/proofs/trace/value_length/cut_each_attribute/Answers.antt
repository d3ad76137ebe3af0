use Rattle.std.proofs.Common.{rules, arith, false, ◌≡◌, is_some}
use Rattle.otel_pipeline.specs.ValueLength.{attribute_within}
use Rattle.otel_pipeline.proofs.Cutting.{changed_next}
use Rattle.otel_pipeline.proofs.EachLemmas.{rest_more}
use Rattle.otel_pipeline.proofs.Unlimited.{unlimited}
use Rattle.otel_pipeline.proofs.trace.value_length.cut_each_attribute.Goals as goal

pub loop-attribute-preserved : goal.loop-attribute-preserved
loop-attribute-preserved c = record {
  changed = changed_next (attribute_within c.args.limits.now) c.args.attributes.now c.loop-attribute.attributes c.loop-attribute.attribute-index c.attribute-item.result _ (omega arith) (search rules) c.loop-attribute.invariant.rest c.loop-attribute.invariant.changed (search rules);
  rest = rest_more c.args.attributes.now c.loop-attribute.attributes c.loop-attribute.attribute-index _ c.loop-attribute.invariant.rest;
}

pub returns-then-is_none : goal.returns-then-is_none
returns-then-is_none c =
    let none : is_some c.args.limits.now.max_attribute_value_length ≡ false = search rules in
    unlimited c.args.limits.now c.args.attributes.now none
