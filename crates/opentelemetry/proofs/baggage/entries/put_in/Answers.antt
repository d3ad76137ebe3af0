use Rattle.std.proofs.Common.{ℕ, List, String, Global, string_bytes, sym, ap, ◌∙◌}
use Rattle.std.specs.Option.{option_map}
use Rattle.std.proofs.lemmas.Result.{err_from_is_err_and}
use Rattle.opentelemetry.specs.Baggage.{plain_entries, entry_at, entry_of, found_at, with_entry}
use Rattle.opentelemetry.proofs.BaggageLemmas.{plain-insert_entry, lookup_at, no_entry_at}
use Rattle.opentelemetry.proofs.baggage.entries.put_in.Goals as goal

pub returns-in_err-reserve_first-clause-memory : goal.returns-in_err-reserve_first-clause-memory
returns-in_err-reserve_first-clause-memory c =
    let p = err_from_is_err_and c.from_residual.result c.from_residual.ensures.1 in
    rw p.1 (ap (λ (es : List (String Global × (String Global × List ℕ))). entry_at (plain_entries es) (string_bytes c.args.name)) c.in_err-reserve_first.ensures.err)

pub returns-in-Ok-clause-ok : goal.returns-in-Ok-clause-ok
returns-in-Ok-clause-ok c =
    ap (λ (es : List (String Global × (String Global × List ℕ))). plain_entries es) c.in-Ok.ensures.entries
    ∙ plain-insert_entry c.reserve_first.new.map.entries c.args.name (c.args.value, c.args.metadata)
    ∙ ap (λ (es : List (String Global × (String Global × List ℕ))). with_entry (plain_entries es) (entry_of (string_bytes c.args.name) (string_bytes c.args.value) c.args.metadata)) c.reserve_first.ensures.same

pub returns-in-Ok-clause-replaced : goal.returns-in-Ok-clause-replaced
returns-in-Ok-clause-replaced c =
    ap (option_map (λ (pair : String Global × List ℕ). (string_bytes pair.0, pair.1))) c.in-Ok.ensures.old
    ∙ sym (lookup_at c.reserve_first.new.map.entries (string_bytes c.args.name))
    ∙ ap (λ (es : List (String Global × (String Global × List ℕ))). found_at (plain_entries es) (string_bytes c.args.name)) c.reserve_first.ensures.same

pub returns-clause-memory : goal.returns-clause-memory
returns-clause-memory c =
    sym (ap (λ (es : List (String Global × (String Global × List ℕ))). entry_at (plain_entries es) (string_bytes c.args.name)) c.reserve_first.ensures.same)
    ∙ no_entry_at c.reserve_first.new.map.entries (string_bytes c.args.name) c.in-Err.ensures.absent
