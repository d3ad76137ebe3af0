use Rattle.std.proofs.Common.{⊎_elim, inr}
use Rattle.opentelemetry.proofs.HeaderLemmas.{match_weaker}
use Rattle.otel_propagators.proofs.b3.read.read_decision.Goals as goal

pub returns-in-None : goal.returns-in-None
returns-in-None c =
    match_weaker c.read_flags.result
    (λ none state says. ⊎_elim (c.in-None.ensures state) (λ many. none state many.1) says)
    (λ state is. inr (c.in-None.ensures, is))
    c.read_flags.ensures
