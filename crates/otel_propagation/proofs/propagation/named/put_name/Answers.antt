use Rattle.std.proofs.Common.{◌≡◌, [], ◌∷◌, ◌++◌, map, sym, ap, subst, ◌∙◌}
use Rattle.std.proofs.lemmas.Bool.{cond-true, cond-false}
use Rattle.otel_propagation.specs.Composite.{with_name}
use Rattle.otel_propagation.specs.NamedPropagators.{name_of}
use Rattle.otel_propagation.proofs.CompositeLemmas.{known_of, new_of}
use Rattle.otel_propagation.proofs.propagation.named.put_name.Goals as goal

pub returns-then-not-is_name-clause-names : goal.returns-then-not-is_name-clause-names
returns-then-not-is_name-clause-names c = sym (cond-false _ _ _ (sym c.is_name.ensures ∙ c.if-not-is_name.true))

pub returns-then-has_name-clause-names : goal.returns-then-has_name-clause-names
returns-then-has_name-clause-names c =
    subst (λ l. map name_of l ≡ with_name (map name_of l) c.args.name.now) c.deref.ensures.value
    (known_of name_of c.deref.result.now c.args.name.now (sym c.has_name.ensures ∙ c.if-has_name.true))
    ∙ sym (cond-true _ _ _ (sym c.is_name.ensures ∙ c.if-not-is_name.false))

pub returns-clause-names : goal.returns-clause-names
returns-clause-names c =
    ap (map name_of) c.in_ok-push.ensures.items
    ∙ subst (λ l. map name_of (l ++ c.in_ok-of.field-0 ∷ []) ≡ with_name (map name_of l) c.args.name.now) c.deref.ensures.value
    (new_of name_of c.deref.result.now c.args.name.now c.in_ok-of.field-0 (sym c.has_name.ensures ∙ c.if-has_name.false) c.in_ok-of.ensures.name)
    ∙ sym (cond-true _ _ _ (sym c.is_name.ensures ∙ c.if-not-is_name.false))
