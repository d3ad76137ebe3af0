-- A byte more belongs to the first part, or the next one begins.
use Rattle.std.proofs.Common.{◌≡◌, ◌+◌, ◌++◌, ◌∷◌, ◌∙◌, ℕ, List, [], ap, sym, arith, drop, take, length, get_or, true, false}
use Rattle.std.proofs.lemmas.List.{drop_all, drop_more, take_all, take_more, take_rest}
use Rattle.otel_otlp_read.specs.Cuts.{cuts, parts}
use Rattle.otel_otlp_read.proofs.PartReading.{onto_part, part_ends, part_goes_on, part_stops, parts_whole}
use Rattle.otel_otlp_read.proofs.lines.first_part.Goals as goal

pub loop-at-init : goal.loop-at-init
loop-at-init c = parts_whole c.args.text.now

pub loop-at-preserved : goal.loop-at-preserved
loop-at-preserved c =
    let text = c.args.text.now in
    let at = c.loop-at.at in
    let uncut : cuts (drop at text) ≡ false =
    sym (ap cuts (take_rest text at)) ∙ sym c.cuts.ensures ∙ c.if-cuts.false in
    ap (λ front. onto_part front (parts (drop (at + 1) text))) (take_more text at 0 (omega arith))
    ∙ part_goes_on (take at text) (get_or text at 0) (drop (at + 1) text) (drop at text) (parts text)
    (drop_more text at 0 (omega arith)) uncut c.loop-at.invariant

pub returns-then-cuts-clause-cut : goal.returns-then-cuts-clause-cut
returns-then-cuts-clause-cut c =
    let text = c.args.text.now in
    let at = c.loop-at.at in
    let cut : cuts (drop at text) ≡ true =
    sym (ap cuts (take_rest text at)) ∙ sym c.cuts.ensures ∙ c.if-cuts.true in
    part_stops (take at text) (get_or text at 0) (drop (at + 1) text) (drop at text) (parts text)
    (drop_more text at 0 (omega arith)) cut c.loop-at.invariant
    ∙ ap (λ rest. take at text ∷ parts rest) (sym (take_rest text (at + 1)))

pub returns-clause-cut : goal.returns-clause-cut
returns-clause-cut c =
    let text = c.args.text.now in
    let at = c.loop-at.at in
    part_ends (take at text) (drop at text) (parts text) (drop_all at text (omega arith)) c.loop-at.invariant
    ∙ ap (λ part. part ∷ []) (take_all at text (omega arith))
