-- The name and the ratio are those of the strings.
use Rattle.std.proofs.Common.{◌≡◌, ◌∙◌, sym, ap, subst, string_bytes}
use Rattle.std.specs.Prelude.{Some}
use Rattle.std.specs.Option.{option_map}
use Rattle.otel_sampling.specs.ConfigStrings.{PlainConfigStrings, IsConfiguredRatio}
use Rattle.otel_sampling.proofs.ConfigLemmas.{configured_named}
use Rattle.otel_sampling.proofs.trace.config.configured_sampler.Goals as goal

pub returns : goal.returns
returns g c =
    let given : c.args.strings.now.sampler ≡ Some c.as_str.result.now =
    ap (λ (s : PlainConfigStrings). s.sampler) (sym c.strings.view_is) ∙ ap (option_map string_bytes) c.in-Some.is
    ∙ ap (λ t. Some t) (sym c.as_str.ensures.value) in
    let argument = subst (λ (s : PlainConfigStrings). IsConfiguredRatio s.sampler_arg c.configured_ratio-ratio.result) c.strings.view_is
    c.configured_ratio-ratio.ensures in
    configured_named c.args.strings.now c.as_str.result.now c.configured_ratio-ratio.result c.named_sampler.result
    given argument c.named_sampler.ensures
