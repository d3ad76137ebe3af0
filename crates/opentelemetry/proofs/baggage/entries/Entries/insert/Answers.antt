use Rattle.std.proofs.Common.{rules, ◌≢◌, ◌+◌, ◌≤◌, [], string_bytes, length, inl, inr, refl, ap, arith}
use Rattle.opentelemetry.specs.Baggage.{entry_of, entry_bytes, baggage_bytes}
use Rattle.opentelemetry.proofs.BaggageLemmas.{room_breaks_none, no_room_breaks}
use Rattle.opentelemetry.proofs.baggage.entries.Entries.insert.Goals as goal

pub returns-in_err-replaced-clause-limit : goal.returns-in_err-replaced-clause-limit
returns-in_err-replaced-clause-limit c =
    let new = entry_of (string_bytes c.args.name) (string_bytes c.args.value) c.args.metadata in
    let room = c.if-has_room.ensures.0 refl in
    let named : string_bytes c.args.name ≢ [] = search rules in
    let name = ap length c.as_str.ensures.value in
    let value = ap length c.as_str-2.ensures.value in
    let small : baggage_bytes c.args.self.now + entry_bytes new ≤ 8192 = omega (arith, c.bytes_of-added.ensures) in
    (λ limit. absurd (cc (rw limit at c.from_residual.ensures.1)), λ breaks. absurd (room_breaks_none c.args.self.now new named room.0 small breaks))

pub returns-then-has_room-clause-limit : goal.returns-then-has_room-clause-limit
returns-then-has_room-clause-limit c =
    let new = entry_of (string_bytes c.args.name) (string_bytes c.args.value) c.args.metadata in
    let room = c.if-has_room.ensures.0 refl in
    let named : string_bytes c.args.name ≢ [] = search rules in
    let name = ap length c.as_str.ensures.value in
    let value = ap length c.as_str-2.ensures.value in
    let small : baggage_bytes c.args.self.now + entry_bytes new ≤ 8192 = omega (arith, c.bytes_of-added.ensures) in
    (λ h. absurd cc, λ breaks. absurd (room_breaks_none c.args.self.now new named room.0 small breaks))

pub returns-clause-limit : goal.returns-clause-limit
returns-clause-limit c =
    let new = entry_of (string_bytes c.args.name) (string_bytes c.args.value) c.args.metadata in
    let name = ap length c.as_str.ensures.value in
    let value = ap length c.as_str-2.ensures.value in (
      λ _. elim (c.in-None.ensures.refused.0 refl) [
        | inl absent ↦ no_room_breaks c.args.self.now new (rw c.as_str-3.ensures.value at absent) (λ few small. absurd (cc (c.if-has_room.ensures.1 (few, omega (arith, c.bytes_of-added.ensures)))))
        | inr large ↦ inr (inr (rw c.as_str-3.ensures.value at large))
      ],
      λ _. refl,
    )
