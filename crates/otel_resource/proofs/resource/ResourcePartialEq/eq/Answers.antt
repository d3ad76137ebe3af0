use Rattle.std.proofs.Common.{sym, ap, refl, ◌∙◌}
use Rattle.otel_resource.specs.Resource.{shared_resource}
use Rattle.otel_resource.proofs.SameLemmas.{compared}
use Rattle.otel_resource.proofs.resource.ResourcePartialEq.eq.Goals as goal

pub returns-in-Some-Some : goal.returns-in-Some-Some
returns-in-Some-Some c =
    compared c.says_same.result _ _ _ _
    (c.deref.ensures ∙ ap shared_resource (sym c.in-Some-Some.is-0) ∙ c.self.view_is)
    (c.deref-in-Some-Some.ensures ∙ ap shared_resource (sym c.in-Some-Some.is-1) ∙ c.other.view_is) c.says_same.ensures

pub returns-in-Some-None : goal.returns-in-Some-None
returns-in-Some-None c =
    compared c.says_nothing.result _ _ _ _
    (c.deref-in-Some-None.ensures ∙ ap shared_resource (sym c.in-Some-None.is-0) ∙ c.self.view_is)
    (ap shared_resource (sym c.in-Some-None.is-1) ∙ c.other.view_is) c.says_nothing.ensures

pub returns-in-None-Some : goal.returns-in-None-Some
returns-in-None-Some c =
    let said = c.says_nothing-in-None-Some.ensures in
    compared c.says_nothing-in-None-Some.result _ _ _ _ (ap shared_resource (sym c.in-None-Some.is-0) ∙ c.self.view_is)
    (c.deref-in-None-Some.ensures ∙ ap shared_resource (sym c.in-None-Some.is-1) ∙ c.other.view_is) (λ h. sym (said.0 h), λ e. said.1 (sym e))

pub returns-in-None-None : goal.returns-in-None-None
returns-in-None-None c =
    compared _ _ _ _ _ (ap shared_resource (sym c.in-None-None.is-0) ∙ c.self.view_is) (ap shared_resource (sym c.in-None-None.is-1) ∙ c.other.view_is) (λ _. refl, λ _. refl)
