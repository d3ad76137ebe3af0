use Rattle.std.proofs.Common.{◌≡◌, [], ◌∷◌, ◌++◌, refl, sym, ap, subst, ◌∙◌}
use Rattle.otel_propagation.specs.Composite.{names_of, with_name}
use Rattle.otel_propagation.proofs.CompositeLemmas.{known_of, new_of}
use Rattle.otel_propagation.proofs.propagation.composite_list.put_field.Goals as goal

pub returns-then-contains : goal.returns-then-contains
returns-then-contains c =
    subst (λ l. names_of l ≡ with_name (names_of l) c.args.name.now) c.deref.ensures.value
    (known_of (λ name. name.now) c.deref.result.now c.args.name.now (sym c.contains.ensures.value ∙ c.if-contains.true))

pub returns : goal.returns
returns c =
    ap names_of c.in_ok-push.ensures.items
    ∙ subst (λ l. names_of (l ++ c.args.name ∷ []) ≡ with_name (names_of l) c.args.name.now) c.deref.ensures.value
    (new_of (λ name. name.now) c.deref.result.now c.args.name.now c.args.name (sym c.contains.ensures.value ∙ c.if-contains.false) refl)
