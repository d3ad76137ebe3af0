use Rattle.std.proofs.Common.{arith, ℕ, ◌<◌, ◌≤◌, length, get_or, List}
use Rattle.otel_sampling.proofs.RatioLemmas.{digit_more, fits_more, no_digit, room_for_digit}
use Rattle.otel_sampling.proofs.trace.ratio.number_after.Goals as goal

pub overflow_mul-number : goal.overflow_mul-number
overflow_mul-number c =
    let i : ℕ = c.loop-digit.digit-index in
    let inside : i < length c.args.digits.now = omega arith in
    omega (arith, room_for_digit c.args.start c.loop-digit.number i (length c.args.digits.now) c.loop-digit.invariant.fits inside c.requires)

pub overflow_add-number : goal.overflow_add-number
overflow_add-number c =
    let i : ℕ = c.loop-digit.digit-index in
    let inside : i < length c.args.digits.now = omega arith in
    omega (arith, room_for_digit c.args.start c.loop-digit.number i (length c.args.digits.now) c.loop-digit.invariant.fits inside c.requires)

pub loop-digit-preserved : goal.loop-digit-preserved
loop-digit-preserved c =
    let i : ℕ = c.loop-digit.digit-index in
    let ds : List ℕ = c.args.digits.now in
    let inside : i < length ds = omega arith in
    let low : 48 ≤ get_or ds i 0 = omega arith in
    let high : get_or ds i 0 ≤ 57 = omega arith in
    let more = digit_more c.args.start c.loop-digit.number i c.from.result ds inside low high (omega arith) c.loop-digit.invariant.digits c.loop-digit.invariant.value in
    record {
      digits = more.0;
      value = more.1;
      fits = fits_more c.args.start c.loop-digit.number c.from.result i c.loop-digit.invariant.fits (omega arith);
    }

pub returns-in_default : goal.returns-in_default
returns-in_default c =
    let i : ℕ = c.loop-digit.digit-index in
    let inside : i < length c.args.digits.now = omega arith in
    record { value = no_digit i c.args.digits.now inside (λ low high. omega arith); fits = tt }

pub returns-in_default-2 : goal.returns-in_default-2
returns-in_default-2 c =
    let i : ℕ = c.loop-digit.digit-index in
    let inside : i < length c.args.digits.now = omega arith in
    record { value = no_digit i c.args.digits.now inside (λ low high. omega arith); fits = tt }
