use Rattle.otel_shop.proofs.ServingLemmas.{price_asked, price_tried}
use Rattle.otel_shop.proofs.cart.ask_price.Goals as goal

pub returns-clause-ok : goal.returns-clause-ok
returns-clause-ok g c = price_asked g.S.HoldsSpans g.B.Service.answers c.args.backend.now c.in_ok-asked.asked
    c.in_ok-asked.ensures c.args.scope.now c.ask_inside.new.scope c.ask_inside.new.service c.ask_inside.result
    c.ask_inside.ensures.asks

pub returns-clause-err : goal.returns-clause-err
returns-clause-err g c = price_tried g.S.HoldsSpans g.B.Service.answers c.args.backend.now c.in_ok-asked.asked
    c.in_ok-asked.ensures c.args.scope.now c.ask_inside.new.scope c.ask_inside.new.service c.ask_inside.result
    c.ask_inside.ensures.asks
