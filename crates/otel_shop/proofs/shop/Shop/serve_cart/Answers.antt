use Rattle.std.proofs.Common.{inr, refl}
use Rattle.opentelemetry.proofs.Clauses.{always_on_err, on_ok_map}
use Rattle.otel_shop.proofs.shop.Shop.serve_cart.Goals as goal

pub returns-clause-ok : goal.returns-clause-ok
returns-clause-ok g c = on_ok_map c.answer_cart.result (λ follows. record {
  reply = c.in_ok-reply.reply;
  asks = c.in_ok-reply.ensures.ok;
  follows = follows;
  rest = refl;
}) c.answer_cart.ensures

pub returns-clause-err : goal.returns-clause-err
returns-clause-err g c = always_on_err c.answer_cart.result
    (record { tries = inr (c.in_ok-reply.reply, c.in_ok-reply.ensures.ok); rest = refl })
