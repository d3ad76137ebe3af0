use Rattle.std.proofs.Common.{ℕ, List, String, Global, ◌++◌, ◌∙◌, ap, append-nil, filter, map, string_bytes, sym}
use Rattle.opentelemetry.specs.TextMap.{text_map}
use Rattle.opentelemetry.proofs.TextMapLemmas.{keys-text_map}
use Rattle.otel_embed.specs.IgnoredSettings.{is_unread, name_lines}
use Rattle.otel_embed.proofs.ignored.push_unread.Goals as goal

pub returns : goal.returns
returns c =
    let unread = λ (names : List (List ℕ)). name_lines (filter (is_unread (text_map c.args.values.now)) names) in
    sym (append-nil (string_bytes c.loop-name.names))
    ∙ ap (λ (left : List (String Global)). string_bytes c.loop-name.names ++ unread (map (λ name. string_bytes name) left)) (sym c.in-None.ensures.steps.0)
    ∙ c.loop-name.invariant
    ∙ ap (λ names. string_bytes c.args.names.now ++ unread names) (sym (keys-text_map c.args.values.now c.keys-name-items.ensures.ordered))
