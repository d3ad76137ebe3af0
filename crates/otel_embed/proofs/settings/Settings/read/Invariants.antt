-- The settings of the lines so far.
use Rattle.std.proofs.Common.{◌≡◌, map}
use Rattle.std.specs.FinMap.{empty}
use Rattle.std.specs.List.{fold}
use Rattle.opentelemetry.specs.TextMap.{text_map}
use Rattle.otel_embed.specs.SettingLines.{with_line}
use Rattle.otel_embed.proofs.settings.Settings.read.Given as goal

abbrev pub invariant-loop-line : goal.invariant-loop-line
invariant-loop-line l = text_map l.values ≡ fold with_line empty (map (λ line. line.now) l.yielded)
