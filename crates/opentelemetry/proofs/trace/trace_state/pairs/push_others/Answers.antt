use Rattle.std.proofs.Common.{sym, ◌∙◌}
use Rattle.std.proofs.lemmas.Result.{err_from_is_err_and}
use Rattle.opentelemetry.specs.PlainValues.{plain_pair}
use Rattle.opentelemetry.proofs.PairLists.{without_around}
use Rattle.opentelemetry.proofs.Pieces.{middle_empty}
use Rattle.opentelemetry.proofs.trace.trace_state.pairs.push_others.Goals as goal

pub returns-in_err-push_unless_key-clause-err : goal.returns-in_err-push_unless_key-clause-err
returns-in_err-push_unless_key-clause-err c =
    let p = err_from_is_err_and c.from_residual.result c.from_residual.ensures.1 in
    rw p.1 (λ none. c.in_err-push_unless_key.ensures.err (middle_empty _ _ _
    (sym (without_around plain_pair c.args.pairs.now c.pairs.pair-index c.pair-item.result c.pairs-test.true c.pair-item.is c.args.key.now) ∙ none)))
