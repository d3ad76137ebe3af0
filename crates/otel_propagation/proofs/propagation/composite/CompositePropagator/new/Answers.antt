use Rattle.std.proofs.Common.{[], ◌++◌, take, sym, ap, ◌∙◌, append-nil}
use Rattle.otel_propagation.specs.Composite.{joined_onto, names_of}
use Rattle.otel_propagation.proofs.CompositeLemmas.{goes_on}
use Rattle.otel_propagation.proofs.propagation.composite.CompositePropagator.new.Goals as goal

pub returns-in_default-clause-err : goal.returns-in_default-clause-err
returns-in_default-clause-err g c same =
    let these = g.A.TextMapPropagator.field_names c.args.first in
    let (after, is) = goes_on (joined_onto [] these) (g.B.TextMapPropagator.field_names c.args.second) in
    c.in_default.ensures after (same ∙ is ∙ ap (λ names. joined_onto [] names ++ after) (sym c.fields.ensures))

pub returns-in_default-names_added-clause-err : goal.returns-in_default-names_added-clause-err
returns-in_default-names_added-clause-err g c same =
    let before = take c.in-Some.given (names_of c.args.fields.now) in
    let those = g.B.TextMapPropagator.field_names c.args.second in
    let front = ap (joined_onto []) (sym c.fields.ensures) ∙ sym c.in-Some.ensures.1 in
    c.in_default-names_added.ensures [] (same ∙ ap (λ names. joined_onto names those) front
    ∙ ap (joined_onto before) (sym c.fields-2.ensures) ∙ sym (append-nil (joined_onto before c.fields-2.result)))
