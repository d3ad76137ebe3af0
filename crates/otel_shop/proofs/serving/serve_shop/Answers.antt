use Rattle.otel_shop.proofs.StatusLemmas.{all_statuses}
use Rattle.otel_shop.proofs.serving.serve_shop.Goals as goal

pub returns-clause-answers : goal.returns-clause-answers
returns-clause-answers g c =
    let called = c.serve.ensures.calls in (
      called.0,
      called.1,
      all_statuses g.S.HoldsSpans g.B.Service.answers called.0 c.args.shop.now c.serve.new.service called.2,
    )
