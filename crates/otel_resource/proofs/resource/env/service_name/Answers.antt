use Rattle.std.proofs.Common.{Some, None, refl, sym, ap, subst, ◌∙◌}
use Rattle.std.proofs.lemmas.Result.{IfOk-weaker}
use Rattle.std.specs.Option.{option_map}
use Rattle.opentelemetry.specs.Plain.{text}
use Rattle.opentelemetry.specs.PlainValues.{plain_value}
use Rattle.otel_resource.specs.Resource.{of_attributes, attributes_of}
use Rattle.otel_resource.specs.DetectedResource.{PlainResourceStrings, ReadsAs, unknown_service}
use Rattle.otel_resource.proofs.DetectedLemmas.{some_env, own_name_decides, found_name_decides}
use Rattle.otel_resource.proofs.resource.env.service_name.Goals as goal

pub returns-in_ok-from_str-in-Some : goal.returns-in_ok-from_str-in-Some
returns-in_ok-from_str-in-Some c =
    let (env, is) = some_env c.args.strings.now.attributes in
    let own = sym c.own_name.ensures ∙ ap (option_map (λ s. s.now)) c.in-Some.is in
    (env, is, ap text c.in_ok-from_str-in-Some.ensures.ok ∙ own_name_decides c.args.strings.now env c.in-Some.name.now own)

pub returns-in-Some-2 : goal.returns-in-Some-2
returns-in-Some-2 c =
    let (pairs, reads, found) = c.in_ok-name-in-None.ensures in
    let none = sym c.own_name.ensures ∙ ap (option_map (λ s. s.now)) c.in-None.is in
    let env = of_attributes (attributes_of pairs) in
    let given = ap (λ (s : PlainResourceStrings). s.attributes) c.strings.view_is in (
      env,
      (pairs, subst (λ o. ReadsAs o pairs) given reads, refl),
      found_name_decides c.args.strings.now env (Some (plain_value c.in-Some-2.name)) none
          (sym found ∙ ap (option_map plain_value) c.in-Some-2.is),
    )

pub returns-in-None-2 : goal.returns-in-None-2
returns-in-None-2 c =
    let (pairs, reads, found) = c.in_ok-name-in-None.ensures in
    let none = sym c.own_name.ensures ∙ ap (option_map (λ s. s.now)) c.in-None.is in
    let env = of_attributes (attributes_of pairs) in
    let given = ap (λ (s : PlainResourceStrings). s.attributes) c.strings.view_is in
    let program = ap (λ (s : PlainResourceStrings). s.program_name) c.strings.view_is in
    IfOk-weaker c.unknown_service.result _ _ (λ name is. (
      env,
      (pairs, subst (λ o. ReadsAs o pairs) given reads, refl),
      is ∙ ap unknown_service program
          ∙ found_name_decides c.args.strings.now env None none (sym found ∙ ap (option_map plain_value) c.in-None-2.is),
    )) c.unknown_service.ensures
