use Rattle.std.proofs.Common.{◌≡◌, ◌∷◌, [], false, inr, refl, true}
use Rattle.opentelemetry.proofs.Clauses.{on_ok_map}
use Rattle.otel_embed.specs.SettingLines.{max_undrained_name}
use Rattle.otel_embed.proofs.ignored.push_unless_max.Goals as goal

pub returns : goal.returns
returns c = on_ok_map c.push_line.result (λ said. (
  max_undrained_name ∷ [],
  inr (λ says. absurd (let no : false ≡ true = c.if-says_max.ensures.1 says in cc), refl),
  said,
)) c.push_line.ensures
