use Rattle.std.proofs.Common.{◌≡◌, take, drop, map}
use Rattle.otel_pipeline.specs.ValueLength.{attribute_within}
use Rattle.otel_pipeline.proofs.trace.value_length.cut_each_attribute.Given as goal

abbrev pub invariant-loop-attribute : goal.invariant-loop-attribute
invariant-loop-attribute l = record {
  changed : take l.attribute-index l.attributes ≡ map (attribute_within l.limits) (take l.attribute-index l.fn.attributes);
  rest : drop l.attribute-index l.attributes ≡ drop l.attribute-index l.fn.attributes;
}
