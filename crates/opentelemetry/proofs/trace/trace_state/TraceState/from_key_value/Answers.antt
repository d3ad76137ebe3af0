use Rattle.std.proofs.Common.{◌∙◌, sym, ap, map}
use Rattle.opentelemetry.specs.PlainValues.{plain_pair}
use Rattle.opentelemetry.specs.Tracestate.{first_pair_fault}
use Rattle.opentelemetry.proofs.WellFormed.{faultless_pairs}
use Rattle.opentelemetry.proofs.trace.trace_state.TraceState.from_key_value.Goals as goal

pub shared-requires : goal.shared-requires
shared-requires c =
    faultless_pairs (map plain_pair c.args.pairs.items) (sym (ap (λ l. first_pair_fault (map plain_pair l)) c.as_slice.ensures.value) ∙ sym c.first_pair_fault.ensures ∙ c.in_default.is)
