use Rattle.std.proofs.Common.{◌≡◌, ℕ, ◌+◌, None, map, drop, ap, sym, ◌∙◌}
use Rattle.opentelemetry.specs.PlainValues.{plain_pair}
use Rattle.opentelemetry.specs.Tracestate.{first_pair_fault, first_of_two, pair_fault}
use Rattle.opentelemetry.proofs.PairLists.{fault_step}
use Rattle.opentelemetry.proofs.trace.trace_state.pairs.first_pair_fault.Goals as goal

pub pairs-preserved : goal.pairs-preserved
pairs-preserved c =
    let i : ℕ = c.pairs.key-index in
    let texts : (c.as_str.result.now, c.as_str-in-pairs.result.now) ≡ plain_pair c.pairs-item.result = λ j. (c.as_str.ensures.value j, c.as_str-in-pairs.ensures.value j) in
    let none : pair_fault (plain_pair c.pairs-item.result) ≡ None = sym (ap pair_fault texts) ∙ sym c.pair_fault.ensures ∙ c.in_default.is in
    sym (ap (λ f. first_of_two f (first_pair_fault (map plain_pair (drop (i + 1) c.args.pairs.now)))) none)
    ∙ sym (fault_step plain_pair c.args.pairs.now i c.pairs-item.result c.pairs-test.true c.pairs-item.is) ∙ c.pairs.invariant
