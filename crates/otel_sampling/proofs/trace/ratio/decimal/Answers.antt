-- A decimal's parts are those around its first point.
use Rattle.std.proofs.Common.{Some, None, inl, inr, refl, lit<, []}
use Rattle.std.proofs.lemmas.Str.Pattern.{split_parts}
use Rattle.otel_sampling.proofs.RatioLemmas.{cut_at_point, cut_nowhere, decimal_by_parts}
use Rattle.otel_sampling.proofs.trace.ratio.decimal.Goals as goal

pub returns-in-Some : goal.returns-in-Some
returns-in-Some c =
    let parts = split_parts 46 c.args.text.now (Some (c.in-Some.whole, c.in-Some.fraction)) c.in-Some.ensures.cases (lit< tt) in
    decimal_by_parts c.args.text.now c.in-Some.whole.now c.in-Some.fraction.now c.ratio_of.result (inl parts.0)
    (cut_at_point c.args.text.now c.in-Some.whole.now c.in-Some.fraction.now parts.0 parts.1)
    (rw (c.as_bytes.ensures.value, c.as_bytes-in-Some.ensures.value) at c.ratio_of.ensures)

pub returns-in-None : goal.returns-in-None
returns-in-None c =
    let nowhere = split_parts 46 c.args.text.now None c.in-None.ensures.cases (lit< tt) in
    decimal_by_parts c.args.text.now c.args.text.now [] c.ratio_of-in-None.result (inr (refl, refl))
    (cut_nowhere c.args.text.now nowhere)
    (rw c.as_bytes-in-None.ensures.value at c.ratio_of-in-None.ensures)
