-- A sign in front of a decimal is no part of it.
use Rattle.std.proofs.Common.{Some, None, inr, refl, lit<}
use Rattle.std.proofs.lemmas.Str.Pattern.{strip_prefix_char}
use Rattle.otel_sampling.proofs.RatioLemmas.{by_itself, by_plus, none_after_minus}
use Rattle.otel_sampling.proofs.trace.ratio.Ratio.from_text.Goals as goal

pub returns-in_err-decimal : goal.returns-in_err-decimal
returns-in_err-decimal c =
    let minus = strip_prefix_char 45 c.args.text.now (Some c.in-Some.size) c.in-Some.ensures.cases (lit< tt) in
    rw c.from_residual.ensures (none_after_minus c.args.text.now c.in-Some.size.now minus c.in_err-decimal.ensures)

pub returns-in-Some : goal.returns-in-Some
returns-in-Some c =
    let minus = strip_prefix_char 45 c.args.text.now (Some c.in-Some.size) c.in-Some.ensures.cases (lit< tt) in
    inr (inr (c.in-Some.size.now, minus, (_, c.in_ok-decimal.ensures), refl))

pub returns-in-Some-strip_prefix : goal.returns-in-Some-strip_prefix
returns-in-Some-strip_prefix c =
    let plus = strip_prefix_char 43 c.args.text.now (Some c.in-Some-strip_prefix.size) c.in-Some-strip_prefix.ensures.cases (lit< tt) in
    by_plus c.args.text.now c.in-Some-strip_prefix.size.now c.decimal-in-Some-strip_prefix.result plus c.decimal-in-Some-strip_prefix.ensures

pub returns-in-None : goal.returns-in-None
returns-in-None c =
    let minus = strip_prefix_char 45 c.args.text.now None c.in_default.ensures.cases (lit< tt) in
    let plus = strip_prefix_char 43 c.args.text.now None c.in-None.ensures.cases (lit< tt) in
    by_itself c.args.text.now c.decimal-in-None.result minus plus c.decimal-in-None.ensures
