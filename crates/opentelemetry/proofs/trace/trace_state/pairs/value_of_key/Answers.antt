use Rattle.std.proofs.Common.{◌≡◌, ℕ, ◌+◌, List, Some, cond, false, map, drop, ap, sym, ◌∙◌}
use Rattle.opentelemetry.specs.Same.{same_text}
use Rattle.opentelemetry.specs.PlainValues.{plain_pair}
use Rattle.opentelemetry.specs.Tracestate.{value_of_key}
use Rattle.opentelemetry.proofs.PairLists.{value_step}
use Rattle.opentelemetry.proofs.trace.trace_state.pairs.value_of_key.Goals as goal

pub pairs-preserved : goal.pairs-preserved
pairs-preserved c =
    let i : ℕ = c.pairs.name-index in
    let key : List ℕ = c.args.key.now in
    let no : same_text (plain_pair c.pairs-item.result).0 key ≡ false = ap (λ t. same_text t key) (sym c.as_str.ensures.value) ∙ sym c.eq.ensures ∙ c.if-eq.false in
    sym (ap (λ b. cond b (Some (plain_pair c.pairs-item.result).1) (value_of_key key (map plain_pair (drop (i + 1) c.args.pairs.now)))) no)
    ∙ sym (value_step plain_pair c.args.pairs.now i c.pairs-item.result c.pairs-test.true c.pairs-item.is key) ∙ c.pairs.invariant
