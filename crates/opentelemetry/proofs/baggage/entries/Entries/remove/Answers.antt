use Rattle.std.proofs.Common.{◌≡◌, length, ap, ◌∙◌, arith}
use Rattle.std.specs.Option.{option_map_or}
use Rattle.opentelemetry.specs.Baggage.{plain_entries, entry_bytes, entry_at, found_bytes, handed_out}
use Rattle.opentelemetry.proofs.BaggageLemmas.{bytes_at-le, baggage_bytes-without_entry, found_bytes-entry_at, IsWithinLimits-without_entry}
use Rattle.opentelemetry.proofs.baggage.entries.Entries.remove.Goals as goal

pub bytes_handed_out-requires : goal.bytes_handed_out-requires
bytes_handed_out-requires c =
    let es = plain_entries c.self.inside.map.entries in
    let counted : found_bytes (length c.args.name.now) (handed_out c.remove_in-removed.result) ≡ option_map_or entry_bytes (entry_at es c.args.name.now) 0 = ap (found_bytes (length c.args.name.now)) c.remove_in-removed.ensures.removed ∙ found_bytes-entry_at es c.args.name.now in
    let le = bytes_at-le es c.args.name.now in
    let all = c.self.invariant.0 in
    let small = c.self.invariant.1.small in
    omega arith

pub overflow_sub-self : goal.overflow_sub-self
overflow_sub-self c =
    let es = plain_entries c.self.inside.map.entries in
    let counted : c.bytes_handed_out.result ≡ option_map_or entry_bytes (entry_at es c.args.name.now) 0 = c.bytes_handed_out.ensures ∙ ap (found_bytes (length c.args.name.now)) c.remove_in-removed.ensures.removed ∙ found_bytes-entry_at es c.args.name.now in
    let le = bytes_at-le es c.args.name.now in
    let all = c.self.invariant.0 in
    omega arith

pub invariant_of-self : goal.invariant_of-self
invariant_of-self c =
    let es = plain_entries c.self.inside.map.entries in
    let counted : c.bytes_handed_out.result ≡ option_map_or entry_bytes (entry_at es c.args.name.now) 0 = c.bytes_handed_out.ensures ∙ ap (found_bytes (length c.args.name.now)) c.remove_in-removed.ensures.removed ∙ found_bytes-entry_at es c.args.name.now in
    let left = baggage_bytes-without_entry es c.args.name.now in
    let all = c.self.invariant.0 in
    rw c.remove_in-removed.ensures.left (omega arith, IsWithinLimits-without_entry es c.args.name.now c.self.invariant.1)
