-- A digit more fits, and is the first of those that are left.
use Rattle.std.proofs.Common.{◌∙◌, arith, sym}
use Rattle.otel_otlp_read.proofs.Digits.{digit_room, digit_fits, digit_step}
use Rattle.otel_otlp_read.proofs.number.number_in.Goals as goal

pub overflow_mul-number : goal.overflow_mul-number
overflow_mul-number c =
    let room = digit_room c.loop-digit.digit-index c.loop-digit.number c.args.radix c.digit_value-value.result
    c.loop-digit.invariant.fits (omega arith) c.requires.small c.if-value-radix.false in
    omega (arith, room)

pub overflow_add-number : goal.overflow_add-number
overflow_add-number c =
    let room = digit_room c.loop-digit.digit-index c.loop-digit.number c.args.radix c.digit_value-value.result
    c.loop-digit.invariant.fits (omega arith) c.requires.small c.if-value-radix.false in
    omega (arith, room)

pub loop-digit-preserved : goal.loop-digit-preserved
loop-digit-preserved c = record {
  fits = digit_fits c.loop-digit.digit-index c.loop-digit.number c.args.radix c.digit_value-value.result
      c.loop-digit.invariant.fits c.requires.small c.if-value-radix.false;
  read = sym (digit_step c.args.radix c.loop-digit.number c.digit_value-value.result c.args.digits.now
      c.loop-digit.digit-index c.loop-digit-test.true c.digit_value-value.ensures c.if-value-radix.false)
      ∙ c.loop-digit.invariant.read;
}
