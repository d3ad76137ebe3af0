use Rattle.std.proofs.Common.{arith, length}
use Rattle.otel_sampling.proofs.RatioLemmas.{digits_front, digits_after, room_after, writes}
use Rattle.otel_sampling.proofs.trace.ratio.ratio_of.Goals as goal

pub returns-in_err-front : goal.returns-in_err-front
returns-in_err-front c =
    rw c.from_residual.ensures (λ ratio w. c.in_err-front.ensures.value (digits_front c.args.whole.now c.args.fraction.now w.digits))

pub number_after-requires-2 : goal.number_after-requires-2
number_after-requires-2 c =
    room_after c.in_ok-front.front (length c.args.whole.now) (length c.args.fraction.now) c.in_ok-front.ensures.fits (omega arith)

pub returns-in_err-numerator : goal.returns-in_err-numerator
returns-in_err-numerator c =
    rw c.from_residual-in_err-numerator.ensures
    (λ ratio w. c.in_err-numerator.ensures.value (digits_after c.args.whole.now c.args.fraction.now w.digits))

pub returns : goal.returns
returns c =
    writes c.args.whole.now c.args.fraction.now c.in_ok-front.front c.in_ok-numerator.numerator c.pow.result
    c.in_ok-front.ensures.value c.in_ok-numerator.ensures.value c.pow.ensures (omega arith) (omega arith)
