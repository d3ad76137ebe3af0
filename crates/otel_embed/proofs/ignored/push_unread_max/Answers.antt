use Rattle.std.proofs.Common.{ℕ, List, [], Option, None, Some, ◌∙◌, ap, append-nil, refl, string_bytes, subst, sym}
use Rattle.opentelemetry.proofs.Clauses.{on_ok_map}
use Rattle.opentelemetry.specs.TextMap.{text_map}
use Rattle.otel_embed.specs.IgnoredSettings.{NamesUnreadMax}
use Rattle.otel_embed.specs.SettingLines.{max_undrained_name}
use Rattle.otel_embed.proofs.SettingMaps.{found_in}
use Rattle.otel_embed.proofs.ignored.push_unread_max.Goals as goal

pub returns-in-Some : goal.returns-in-Some
returns-in-Some c = on_ok_map c.push_unless_max.result (λ said. (
  said.0,
  subst (λ (text : Option (List ℕ)). NamesUnreadMax text said.0)
      (ap Some c.as_str.ensures.value ∙ found_in c.args.values.now (text_map c.args.values.now) max_undrained_name (Some c.in-Some.text.now) refl c.in-Some.ensures.value) said.1,
  said.2,
)) c.push_unless_max.ensures

pub returns-in-None : goal.returns-in-None
returns-in-None c = (
  [],
  subst (λ (text : Option (List ℕ)). NamesUnreadMax text [])
      (found_in c.args.values.now (text_map c.args.values.now) max_undrained_name None refl c.in-None.ensures.value) refl,
  sym (append-nil (string_bytes c.args.names.now)),
)
