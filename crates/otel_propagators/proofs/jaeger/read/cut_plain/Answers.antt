use Rattle.std.proofs.Common.{lit<}
use Rattle.std.proofs.lemmas.Str.Pattern.{split_after}
use Rattle.otel_propagators.proofs.JaegerLemmas.{not_colon}
use Rattle.otel_propagators.proofs.jaeger.read.cut_plain.Goals as goal

pub returns-clause-only : goal.returns-clause-only
returns-clause-only c = λ front rest digits is.
    split_after 58 c.args.text.now front rest c.split_once.result c.split_once.ensures.cases (lit< tt) is (λ i inside. not_colon _ (digits i 0 inside))
