use Rattle.std.proofs.Common.{sym, ap, ◌∙◌, lit<}
use Rattle.otel_propagation.specs.StrictBaggage.{checked_key, checked_pair, pair_of_cut, strict_pair}
use Rattle.otel_propagation.proofs.StrictBytes.{cut_as_split, uncut_as_split}
use Rattle.otel_propagation.proofs.propagation.strict_baggage.pairs.read_pair.Goals as goal

pub returns-in-Some : goal.returns-in-Some
unfolding strict_pair
returns-in-Some c =
    c.checked_pair.ensures ∙ (λ i. checked_pair (c.trim_blanks.ensures i) (c.trim_blanks-in-Some.ensures i))
    ∙ sym (ap (pair_of_cut c.args.text.now) (cut_as_split 61 c.args.text.now c.in-Some.key c.in-Some.value c.in-Some.ensures.cases (lit< tt)))

pub returns-in-None : goal.returns-in-None
unfolding strict_pair
returns-in-None c =
    c.checked_key.ensures ∙ ap checked_key c.trim_blanks-in-None.ensures
    ∙ sym (ap (pair_of_cut c.args.text.now) (uncut_as_split 61 c.args.text.now c.in-None.ensures.cases (lit< tt)))
