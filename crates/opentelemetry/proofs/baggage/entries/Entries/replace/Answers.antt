use Rattle.std.proofs.Common.{◌≡◌, ◌≢◌, ◌<◌, ◌⊎◌, ℕ, List, [], Some, None, true, false, is_some, sym, ap, ◌∙◌, inr, true≢false}
use Rattle.opentelemetry.specs.Baggage.{PlainBaggage, PlainBaggageEntry, plain_entries, entry_at, found_at, value_and_metadata, with_entry, baggage_bytes, BreaksLimit, IsWithinLimits}
use Rattle.opentelemetry.proofs.BaggageLemmas.{is_some-mapped, replaced_breaks_none, IsWithinLimits-with_entry}
use Rattle.opentelemetry.proofs.baggage.entries.Entries.replace.Goals as goal

-- an entry that was put in the place of another breaks no limit
breaks_none : (es : PlainBaggage) (new : PlainBaggageEntry) (pair : List ℕ × List ℕ) → new.key ≢ [] → IsWithinLimits es → Some pair ≡ found_at es new.key
    → ((entry_at es new.key ≡ None) ⊎ (8192 < baggage_bytes (with_entry es new)) → true ≡ false) → ¬ (BreaksLimit es new)
breaks_none es new pair named within found put =
    let there : is_some (entry_at es new.key) ≡ true = sym (is_some-mapped value_and_metadata (entry_at es new.key)) ∙ sym (ap is_some found) in
    replaced_breaks_none es new named within.few there (λ large. true≢false (put (inr large)))

pub returns-clause-allowed : goal.returns-clause-allowed
returns-clause-allowed c =
    let es = plain_entries c.self.inside.map.entries in
    let after = c.in_ok-after.ensures in
    rw (← c.self.view_is) (breaks_none es _ _ c.requires.named c.self.invariant.1 after.replaced after.refused.1)

pub invariant_of-self-2 : goal.invariant_of-self-2
invariant_of-self-2 c =
    let es = plain_entries c.self.inside.map.entries in
    let after = c.in_ok-after.ensures in
    let none = breaks_none es _ _ c.requires.named c.self.invariant.1 after.replaced after.refused.1 in
    rw after.ok (after.counted, IsWithinLimits-with_entry es _ none c.self.invariant.1.have_names)
