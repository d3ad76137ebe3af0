use Rattle.std.proofs.Common.{◌∙◌, sym}
use Rattle.otel_probability.proofs.Digits.{no_randomness, written_randomness}
use Rattle.otel_probability.proofs.randomness.Randomness.from_text.Goals as goal

pub returns-in_err-number : goal.returns-in_err-number
returns-in_err-number c = c.from_residual.ensures ∙ sym (no_randomness c.args.text.now (λ is. cc (c.in_err-number.ensures.only.1 is)))

pub returns : goal.returns
returns c = sym (written_randomness c.args.text.now c.in_ok-number.number c.in_ok-number.ensures.value.0 c.in_ok-number.ensures.value.1)
