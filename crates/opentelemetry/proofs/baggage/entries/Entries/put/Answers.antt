use Rattle.std.proofs.Common.{◌≡◌, length, string_bytes, ap, ◌∙◌, arith}
use Rattle.std.specs.Option.{option_map_or}
use Rattle.opentelemetry.specs.Baggage.{PlainBaggage, plain_entries, entry_of, entry_at, entry_bytes, baggage_bytes, found_bytes, handed_out}
use Rattle.opentelemetry.proofs.BaggageLemmas.{bytes_at-le, baggage_bytes-with_entry, found_bytes-entry_at, room_breaks_none, IsWithinLimits-with_entry}
use Rattle.opentelemetry.proofs.baggage.entries.Entries.put.Goals as goal

pub bytes_handed_out-requires : goal.bytes_handed_out-requires
bytes_handed_out-requires c =
    let es = plain_entries c.self.inside.map.entries in
    let name = string_bytes c.args.name in
    let len : c.len-name_len.result ≡ length name = omega (arith, c.len-name_len.ensures) in
    let counted : found_bytes c.len-name_len.result (handed_out c.in_ok-replaced.replaced) ≡ option_map_or entry_bytes (entry_at es name) 0 = (λ i. found_bytes (len i) (c.in_ok-replaced.ensures.replaced i)) ∙ found_bytes-entry_at es name in
    let le = bytes_at-le es name in
    let small = c.self.invariant.1.small in
    omega arith

pub overflow_sub-self : goal.overflow_sub-self
overflow_sub-self c =
    let es = plain_entries c.self.inside.map.entries in
    let name = string_bytes c.args.name in
    let len : c.len-name_len.result ≡ length name = omega (arith, c.len-name_len.ensures) in
    let counted : found_bytes c.len-name_len.result (handed_out c.in_ok-replaced.replaced) ≡ option_map_or entry_bytes (entry_at es name) 0 = (λ i. found_bytes (len i) (c.in_ok-replaced.ensures.replaced i)) ∙ found_bytes-entry_at es name in
    let le = bytes_at-le es name in
    let all = c.self.invariant.0 in
    omega (arith, c.bytes_handed_out.ensures)

pub invariant_of-self-2 : goal.invariant_of-self-2
invariant_of-self-2 c =
    let es = plain_entries c.self.inside.map.entries in
    let name = string_bytes c.args.name in
    let new = entry_of name (string_bytes c.args.value) c.args.metadata in
    let len : c.len-name_len.result ≡ length name = omega (arith, c.len-name_len.ensures) in
    let counted : found_bytes c.len-name_len.result (handed_out c.in_ok-replaced.replaced) ≡ option_map_or entry_bytes (entry_at es name) 0 = (λ i. found_bytes (len i) (c.in_ok-replaced.ensures.replaced i)) ∙ found_bytes-entry_at es name in
    let all = c.self.invariant.0 in
    let put = baggage_bytes-with_entry es new in
    let added : c.args.added ≡ entry_bytes new = c.requires.counted in
    let handed = c.bytes_handed_out.ensures in
    let number = ap length c.self.view_is in
    let sum = ap (λ (all : PlainBaggage). baggage_bytes all) c.self.view_is in
    let few = c.requires.few in
    let small = c.requires.small in
    rw c.in_ok-replaced.ensures.ok
    (omega arith, IsWithinLimits-with_entry es new (room_breaks_none es new c.requires.named (omega arith) (omega arith)) c.self.invariant.1.have_names)
