use Rattle.std.proofs.Common.{not, map, ap, ◌∙◌, rules}
use Rattle.std.proofs.lemmas.Fn.{filter_same}
use Rattle.opentelemetry.specs.PlainValues.{plain_pair}
use Rattle.opentelemetry.specs.Same.{same_text}
use Rattle.opentelemetry.proofs.PairLists.{plain_without}
use Rattle.opentelemetry.proofs.trace.trace_state.pairs.retain_others.Goals as goal

pub returns-clause-others : goal.returns-clause-others
returns-clause-others c =
    ap (map plain_pair) (filter_same _ (λ pair. not (same_text (plain_pair pair).0 c.args.key.now)) _ (λ x b f' k. search rules) _ _ c.retain.ensures.filtered)
    ∙ plain_without plain_pair c.args.key.now c.args.pairs.now.items
