use Rattle.std.proofs.Common.{◌∙◌, Some, None, ap}
use Rattle.otel_embed.proofs.SettingMaps.{found_in}
use Rattle.otel_embed.proofs.settings.SettingsVariables.value.Goals as goal

pub returns-in-Ok-clause-ok : goal.returns-in-Ok-clause-ok
returns-in-Ok-clause-ok c = ap Some c.in-Ok.ensures.cases ∙ found_in c.self.inside.values c.args.self.now c.args.name.now (Some c.in-Some.text.now) c.self.view_is c.in-Some.ensures.value

pub returns-in-None-clause-ok : goal.returns-in-None-clause-ok
returns-in-None-clause-ok c = found_in c.self.inside.values c.args.self.now c.args.name.now None c.self.view_is c.in-None.ensures.value
