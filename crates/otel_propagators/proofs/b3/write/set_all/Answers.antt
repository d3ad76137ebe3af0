use Rattle.std.proofs.Common.{List, ℕ, String, Global, inl, inr, refl, sym, subst, ◌∙◌, string_bytes}
use Rattle.opentelemetry.specs.Carrier.{Texts, SetsText}
use Rattle.otel_propagators.specs.B3Headers.{name_of, plain_headers, SetsInTurn, SetsSome}
use Rattle.otel_propagators.specs.declared.b3.field.Field.{Field}
use Rattle.otel_propagators.proofs.B3Lemmas.{no_items, on_err_from}
use Rattle.otel_propagators.proofs.b3.write.set_all.Goals as goal

pub loop-field-init : goal.loop-field-init
loop-field-init g c =
    let items = c.into_iter-field-iterator.ensures.into_iter_gives.0 in (
      λ final sets. subst (λ (hs : List (Field × String Global)). SetsInTurn (g.I.Injector.texts c.args.injector.now) (plain_headers hs) final) items sets,
      λ final sets. subst (λ (hs : List (Field × String Global)). SetsSome (g.I.Injector.texts c.args.injector.now) (plain_headers hs) final) items sets,
    )

pub loop-field-preserved : goal.loop-field-preserved
loop-field-preserved g c =
    let texts : Texts = g.I.Injector.texts c.loop-field.injector in
    let items = c.in-Some.ensures.steps.0 in
    let first : SetsText texts (g.I.Injector.texts c.set.new.self) (name_of c.in-Some.field) (string_bytes c.in-Some.text) =
    subst (λ (n : List ℕ). SetsText texts (g.I.Injector.texts c.set.new.self) n (string_bytes c.in-Some.text)) c.name.ensures c.in_ok-set.ensures.ok in (
      λ final sets. c.loop-field.invariant.0 final
          (subst (λ (hs : List (Field × String Global)). SetsInTurn texts (plain_headers hs) final) (sym items) (g.I.Injector.texts c.set.new.self, first, sets)),
      λ final sets. c.loop-field.invariant.1 final
          (subst (λ (hs : List (Field × String Global)). SetsSome texts (plain_headers hs) final) (sym items) (inr (g.I.Injector.texts c.set.new.self, first, sets))),
    )

pub returns-in_err-set-clause-err : goal.returns-in_err-set-clause-err
returns-in_err-set-clause-err g c =
    let texts : Texts = g.I.Injector.texts c.loop-field.injector in
    on_err_from c.from_residual.result
    (c.loop-field.invariant.1 (g.I.Injector.texts c.set.new.self)
    (subst (λ (hs : List (Field × String Global)). SetsSome texts (plain_headers hs) (g.I.Injector.texts c.set.new.self)) (sym c.in-Some.ensures.steps.0) (inl c.in_err-set.ensures.err)))

pub returns-clause-ok : goal.returns-clause-ok
returns-clause-ok g c =
    let texts : Texts = g.I.Injector.texts c.loop-field.injector in
    let rest = c.loop-field.field-iterator.rest in
    let none = no_items rest.items (sym rest.ok.0 ∙ c.in-None.ensures.steps.0) in
    c.loop-field.invariant.0 texts
    (subst (λ (hs : List (Field × String Global)). SetsInTurn texts (plain_headers hs) texts) (sym none) (λ _. refl))
