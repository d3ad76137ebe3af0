use Rattle.std.proofs.Common.{Some, ap, ◌∙◌, subst}
use Rattle.std.proofs.lemmas.Result.{on_ok_weaker}
use Rattle.otel_propagation.specs.BaggageHeader.{header_of, IsBaggage}
use Rattle.otel_propagation.proofs.BaggageRoundTrip.{header_carries}
use Rattle.otel_propagation.proofs.propagation.baggage.BaggagePropagatorTextMapPropagator.inject_context.Goals as goal

pub returns-clause-carried : goal.returns-clause-carried
returns-clause-carried g c =
    let same = c.baggage-baggage.ensures in
    let is : IsBaggage c.baggage-baggage.result.now = record {
      within = c.baggages_keep_their_limits.ensures.within;
      distinct = c.baggages_keep_their_limits.ensures.distinct;
      texts = c.in_ok-header.ensures.texts;
    } in
    on_ok_weaker c.set.result
    (λ set carried. header_carries c.args.cx.now.baggage (g.I.Injector.texts c.set.new.self) (subst IsBaggage same is) carried
    (set.set ∙ ap Some (c.in_ok-header.ensures.header ∙ ap header_of same)))
    c.set.ensures.ok
