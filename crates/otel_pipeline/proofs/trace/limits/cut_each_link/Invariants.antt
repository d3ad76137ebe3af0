use Rattle.std.proofs.Common.{◌≡◌, take, drop, map}
use Rattle.otel_pipeline.specs.SpanHistory.{link_within}
use Rattle.otel_pipeline.proofs.trace.limits.cut_each_link.Given as goal

abbrev pub invariant-loop-link : goal.invariant-loop-link
invariant-loop-link l = record {
  changed : take l.link-index l.links ≡ map (link_within l.fn.limits) (take l.link-index l.fn.links);
  rest : drop l.link-index l.links ≡ drop l.link-index l.fn.links;
}
