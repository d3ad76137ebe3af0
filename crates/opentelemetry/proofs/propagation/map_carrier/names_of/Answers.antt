use Rattle.std.proofs.Common.{ℕ, List, Bor, map, string_bytes, sym, ◌∙◌}
use Rattle.std.specs.BTreeMap.{keys}
use Rattle.opentelemetry.proofs.TextMapLemmas.{keys-text_map, keys_have_text, all_gathered, no_names_no_texts, something_left}
use Rattle.opentelemetry.proofs.propagation.map_carrier.names_of.Goals as goal

pub returns-clause-named : goal.returns-clause-named
returns-clause-named c =
    all_gathered (λ name. string_bytes name) (map (λ name. name.now) c.loop-name.names.items) (map (λ name. string_bytes name) (keys c.args.texts.now)) c.loop-name.name-iterator c.in-None.ensures.steps.0 c.loop-name.invariant
    ∙ sym (keys-text_map c.args.texts.now c.keys-name-items.ensures.ordered)

pub returns-clause-read : goal.returns-clause-read
returns-clause-read c = λ low.
    keys_have_text c.args.texts.now (λ (name : Bor (List ℕ)). name.now) c.loop-name.names.items low c.keys-name-items.ensures.found
    (all_gathered (λ name. string_bytes name) (map (λ name. name.now) c.loop-name.names.items) (map (λ name. string_bytes name) (keys c.args.texts.now)) c.loop-name.name-iterator c.in-None.ensures.steps.0 c.loop-name.invariant)

pub returns-in_err-names-clause-free : goal.returns-in_err-names-clause-free
returns-in_err-names-clause-free c = λ none.
    let ok = c.in_err-names.ensures.succeeds (c.len.ensures.len ∙ no_names_no_texts c.args.texts.now c.len.ensures.ordered none) in
    absurd cc

pub returns-in_err-push-clause-free : goal.returns-in_err-push-clause-free
returns-in_err-push-clause-free c = λ none.
    absurd (something_left (λ name. string_bytes name) _ c.loop-name.name-iterator _ _ c.in-Some.ensures.steps
    (c.loop-name.invariant ∙ sym (keys-text_map c.args.texts.now c.len.ensures.ordered) ∙ none))
