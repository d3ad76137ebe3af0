use Rattle.std.proofs.Common.{ℕ, List, String, Global, string_bytes, Some, sym, ap, ◌∙◌}
use Rattle.std.specs.Option.{option_map}
use Rattle.opentelemetry.proofs.BaggageLemmas.{lookup_at}
use Rattle.opentelemetry.proofs.baggage.entries.get_in.Goals as goal

pub returns-in-Some : goal.returns-in-Some
returns-in-Some c =
    ap (λ (text : List ℕ). Some (text, c.in-Some.kept.now.1)) c.as_str.ensures.value
    ∙ ap (option_map (λ (pair : String Global × List ℕ). (string_bytes pair.0, pair.1))) c.in-Some.ensures.value
    ∙ sym (lookup_at c.args.map.now.entries c.args.name.now)

pub returns-in-None : goal.returns-in-None
returns-in-None c =
    ap (option_map (λ (pair : String Global × List ℕ). (string_bytes pair.0, pair.1))) c.in-None.ensures.value
    ∙ sym (lookup_at c.args.map.now.entries c.args.name.now)
