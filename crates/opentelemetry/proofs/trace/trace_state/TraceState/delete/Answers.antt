use Rattle.std.proofs.Common.{◌∙◌, sym, ap, subst}
use Rattle.opentelemetry.specs.Tracestate.{ArePairs, without_key}
use Rattle.opentelemetry.proofs.WellFormed.{other_pairs}
use Rattle.opentelemetry.proofs.trace.trace_state.TraceState.delete.Goals as goal

pub shared-requires : goal.shared-requires
shared-requires c =
    subst ArePairs (sym (c.in_ok-pairs.ensures.ok ∙ ap (without_key c.args.key.now) c.entries.ensures.value)) (other_pairs c.args.key.now c.args.self.now c.entries.ensures.pairs)
