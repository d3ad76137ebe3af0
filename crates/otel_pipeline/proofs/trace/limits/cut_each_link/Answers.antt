use Rattle.std.proofs.Common.{rules, arith}
use Rattle.otel_pipeline.specs.SpanHistory.{link_within}
use Rattle.otel_pipeline.proofs.Cutting.{changed_next}
use Rattle.otel_pipeline.proofs.EachLemmas.{rest_more}
use Rattle.otel_pipeline.proofs.trace.limits.cut_each_link.Goals as goal

pub loop-link-preserved : goal.loop-link-preserved
loop-link-preserved c = record {
  changed = changed_next (link_within c.args.limits) c.args.links.now c.loop-link.links c.loop-link.link-index c.link-item.result _ (omega arith) (search rules) c.loop-link.invariant.rest c.loop-link.invariant.changed (search rules);
  rest = rest_more c.args.links.now c.loop-link.links c.loop-link.link-index _ c.loop-link.invariant.rest;
}
