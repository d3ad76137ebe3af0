use Rattle.std.proofs.Common.{ℕ, List, String, Global, string_bytes, sym, ap, ◌∙◌}
use Rattle.std.specs.Option.{option_map}
use Rattle.opentelemetry.specs.Baggage.{plain_entries}
use Rattle.opentelemetry.proofs.BaggageLemmas.{plain-remove_entry, lookup_at}
use Rattle.opentelemetry.proofs.baggage.entries.remove_in.Goals as goal

pub returns-clause-left : goal.returns-clause-left
returns-clause-left c =
    ap (λ (es : List (String Global × (String Global × List ℕ))). plain_entries es) c.shift_remove.ensures.entries
    ∙ plain-remove_entry c.args.map.now.entries c.args.name.now

pub returns-clause-removed : goal.returns-clause-removed
returns-clause-removed c =
    ap (option_map (λ (pair : String Global × List ℕ). (string_bytes pair.0, pair.1))) c.shift_remove.ensures.value
    ∙ sym (lookup_at c.args.map.now.entries c.args.name.now)
