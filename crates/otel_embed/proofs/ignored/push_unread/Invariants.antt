-- The names so far, and then those that are still to come, are all.
use Rattle.std.proofs.Common.{◌≡◌, ◌++◌, filter, map, string_bytes}
use Rattle.std.specs.BTreeMap.{keys}
use Rattle.opentelemetry.specs.TextMap.{text_map}
use Rattle.otel_embed.specs.IgnoredSettings.{is_unread, name_lines}
use Rattle.otel_embed.proofs.ignored.push_unread.Given as goal

abbrev pub invariant-loop-name : goal.invariant-loop-name
invariant-loop-name l =
    string_bytes l.names ++ name_lines (filter (is_unread (text_map l.values)) (map (λ name. string_bytes name) l.name-iterator))
    ≡ string_bytes l.initial.names ++ name_lines (filter (is_unread (text_map l.values)) (map (λ name. string_bytes name) (keys l.values)))
