use Rattle.std.proofs.Common.{[], lit<, ◌∙◌, ap, ◌∷◌}
use Rattle.opentelemetry.specs.Members.{pieces_at}
use Rattle.otel_propagation.proofs.BaggagePieceLemmas.{cut_once, uncut}
use Rattle.otel_propagation.proofs.propagation.baggage.read.split_pair.Goals as goal

pub returns-in_err-name : goal.returns-in_err-name
returns-in_err-name c = rw c.from_residual.ensures (uncut 61 c.args.pair.now c.in_err-name.ensures.cases (lit< tt))

pub returns-in-Some : goal.returns-in-Some
returns-in-Some c = (
  pieces_at 61 c.in-Some.field-0-1.now,
  cut_once 61 c.args.pair.now c.in_ok-name.name c.in_ok-name.after c.in_ok-name.ensures.cases (lit< tt)
      ∙ ap (λ more. c.in_ok-name.name.now ∷ more) (cut_once 61 c.in_ok-name.after.now c.in-Some.value c.in-Some.field-0-1 c.in-Some.ensures.cases (lit< tt)),
)

pub returns-in-None : goal.returns-in-None
returns-in-None c = (
  [],
  cut_once 61 c.args.pair.now c.in_ok-name.name c.in_ok-name.after c.in_ok-name.ensures.cases (lit< tt)
      ∙ ap (λ more. c.in_ok-name.name.now ∷ more) (uncut 61 c.in_ok-name.after.now c.in-None.ensures.cases (lit< tt)),
)
