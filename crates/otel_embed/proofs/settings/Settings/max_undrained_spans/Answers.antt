use Rattle.std.proofs.Common.{ℕ, List, Option, None, Some, ◌∙◌, ap, refl, subst}
use Rattle.otel_sampling.specs.ConfigStrings.{IsConfiguredNumber}
use Rattle.otel_embed.specs.SettingLines.{max_undrained_name}
use Rattle.otel_embed.proofs.SettingMaps.{found_in}
use Rattle.otel_embed.proofs.settings.Settings.max_undrained_spans.Goals as goal

pub returns-in-Some : goal.returns-in-Some
returns-in-Some c = subst (λ (said : Option (List ℕ)). IsConfiguredNumber 64 said 65_536 c.max_said.result)
    (ap Some c.as_str.ensures.value ∙ found_in c.self.inside.values c.args.self.now max_undrained_name (Some c.in-Some.text.now) c.self.view_is c.in-Some.ensures.value)
    c.max_said.ensures

pub returns-in-None : goal.returns-in-None
returns-in-None c = subst (λ (said : Option (List ℕ)). IsConfiguredNumber 64 said 65_536 65_536)
    (found_in c.self.inside.values c.args.self.now max_undrained_name None c.self.view_is c.in-None.ensures.value) refl
