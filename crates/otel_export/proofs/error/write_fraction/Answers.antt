use Rattle.std.proofs.Math.Nat.{mod-lt}
use Rattle.std.proofs.Common.{◌≡◌, ◌+◌, ◌/◌, [], ◌∷◌, ◌++◌, refl, sym, ap, ◌∙◌, append-nil, rules, arith, ne_eqb}
use Rattle.std.proofs.Output.{has_written_append, has_written_of_eq}
use Rattle.std.proofs.lemmas.Grind.{common_steps}
use Rattle.otel_export.specs.ErrorText as printed
use Rattle.otel_export.specs.ErrorText.{fraction_text}
use Rattle.otel_export.proofs.FractionLemmas.{next_place, digit_written, significant, significant-zero}
use Rattle.otel_export.proofs.error.write_fraction.Goals as goal

pub returns-then-remainder-eq0 : goal.returns-then-remainder-eq0
unfolding fraction_text
returns-then-remainder-eq0 g c = grind (arith, common_steps)

pub nonzero_div-left : goal.nonzero_div-left
nonzero_div-left g c =
    let (k, place, below, _, _, _) = c.digits.invariant in (next_place k _ _ place below c.digits-test.true).positive

pub write_digit-requires : goal.write_digit-requires
write_digit-requires g c =
    let (k, place, below, _, _, _) = c.digits.invariant in (next_place k _ _ place below c.digits-test.true).digit

pub nonzero_rem-left : goal.nonzero_rem-left
nonzero_rem-left g c =
    let (k, place, below, _, _, _) = c.digits.invariant in (next_place k _ _ place below c.digits-test.true).positive

pub digits-preserved : goal.digits-preserved
digits-preserved g c =
    let (k, place, below, done, whole, wrote) = c.digits.invariant in
    let next = next_place k _ _ place below c.digits-test.true in (
      next.next,
      next.power,
      mod-lt _ next.positive,
      done ++ (48 + c.digits.left / (c.digits.place / 10)) ∷ [],
      digit_written k c.digits.left c.digits.place done _ next c.digits-test.true whole,
      λ plain. has_written_append _ _ _ _ _ _ (wrote plain) (search rules),
    )

pub returns : goal.returns
unfolding fraction_text
returns g c plain ok =
    let (k, _, _, done, whole, wrote) = c.digits.invariant in
    let nothing_left : c.digits.left ≡ 0 = omega (arith, c.digits-test.false) in
    let all : done ≡ significant (printed.places c.args.unit) c.args.remainder =
    sym (append-nil done) ∙ ap (λ t. done ++ t) (sym (significant-zero k) ∙ ap (significant k) (sym nothing_left)) ∙ whole in
    let dot = c.in_ok-write_str.ensures.writes plain refl in
    rw (ne_eqb _ _ c.if-remainder-eq0.false) (has_written_of_eq _ _ _ _ _ (ap (λ t. 46 ∷ t) all) (has_written_append _ _ _ _ _ _ dot (wrote dot.plain)))
