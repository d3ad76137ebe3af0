use Rattle.std.specs.BTreeMap.{btree_map_len}
use Rattle.otel_trace_session.proofs.span_maps.abandon_all.Given as goal

abbrev pub decreases-loop-name : goal.decreases-loop-name
decreases-loop-name l = btree_map_len l.spans
