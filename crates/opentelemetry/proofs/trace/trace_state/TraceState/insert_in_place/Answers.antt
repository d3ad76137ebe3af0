use Rattle.std.proofs.Common.{◌≡◌, ◌∷◌, ◌∙◌, ℕ, List, None, sym, ap, map, subst, string_bytes, rules}
use Rattle.opentelemetry.specs.PlainValues.{plain_pair}
use Rattle.opentelemetry.specs.Tracestate.{ArePairs, pair_fault, without_key}
use Rattle.opentelemetry.proofs.WellFormed.{faultless_pair, other_pairs}
use Rattle.opentelemetry.proofs.trace.trace_state.TraceState.insert_in_place.Goals as goal

pub invariant_of-self-in-Some-get_mut : goal.invariant_of-self-in-Some-get_mut
invariant_of-self-in-Some-get_mut c =
    let key : List ℕ = string_bytes c.args.key in
    let value : List ℕ = string_bytes c.args.value in
    let texts : (c.as_str.result.now, c.as_str-2.result.now) ≡ (key, value) = λ j. (c.as_str.ensures.value j, c.as_str-2.ensures.value j) in
    let none : pair_fault (key, value) ≡ None = sym (ap pair_fault texts) ∙ sym c.pair_fault.ensures ∙ c.in_default.is in
    let before : ArePairs (map plain_pair c.in-Some-get_mut.pairs.now.items) = search rules in
    subst ArePairs (sym c.in_ok-put_in_front.ensures.ok)
    (faultless_pair (key, value) none, other_pairs key (map plain_pair c.in-Some-get_mut.pairs.now.items) before)

pub shared-requires : goal.shared-requires
shared-requires c =
    let key : List ℕ = string_bytes c.args.key in
    let value : List ℕ = string_bytes c.args.value in
    let texts : (c.as_str.result.now, c.as_str-2.result.now) ≡ (key, value) = λ j. (c.as_str.ensures.value j, c.as_str-2.ensures.value j) in
    let none : pair_fault (key, value) ≡ None = sym (ap pair_fault texts) ∙ sym c.pair_fault.ensures ∙ c.in_default.is in
    subst ArePairs (sym (c.in_ok-pairs.ensures ∙ ap (λ l. (key, value) ∷ without_key key l) c.entries.ensures.value))
    (faultless_pair (key, value) none, other_pairs key _ c.entries.ensures.pairs)
