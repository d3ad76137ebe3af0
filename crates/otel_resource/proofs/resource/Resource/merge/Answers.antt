use Rattle.std.proofs.Common.{sym, ap, ◌∙◌}
use Rattle.std.proofs.lemmas.Result.{MatchResult-weaker}
use Rattle.otel_resource.specs.Resource.{PlainResource, merge}
use Rattle.otel_resource.proofs.AttributeLemmas.{merge-nothing, merge-nothing_left}
use Rattle.otel_resource.proofs.resource.Resource.merge.Goals as goal

pub returns-then-says_nothing-clause-ok : goal.returns-then-says_nothing-clause-ok
returns-then-says_nothing-clause-ok c =
    let empty = c.says_nothing.ensures.0 c.if-says_nothing.true in
    sym (merge-nothing_left c.args.other) ∙ ap (λ (r : PlainResource). merge r c.args.other) (sym empty)

pub returns-then-says_nothing-2-clause-ok : goal.returns-then-says_nothing-2-clause-ok
returns-then-says_nothing-2-clause-ok c =
    let empty = c.says_nothing-2.ensures.0 c.if-says_nothing-2.true in
    let same = sym (merge-nothing c.args.self.now) ∙ ap (λ (r : PlainResource). merge c.args.self.now r) (sym empty) in
    MatchResult-weaker c.clone.result c.clone.ensures.cases (λ copy is. is ∙ same) (λ _ _. tt)
