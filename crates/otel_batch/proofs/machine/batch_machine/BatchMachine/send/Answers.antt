use Rattle.std.proofs.Common.{arith, ◌≡◌, ℕ, ◌+◌, ◌∷◌, ◌++◌, [], ◌<◌, Some, true, ap, refl, slice_get, length}
use Rattle.std.proofs.lemmas.Grind.{common_steps}
use Rattle.otel_batch.specs.Slots.{is_holding, number_held, slot_counts, slot_asks, slot_waits}
use Rattle.otel_batch.specs.declared.machine.state.Slot.TheVariants.{Refused, Holding}
use Rattle.otel_batch.specs.ProducerSteps.{after_send}
use Rattle.otel_batch.proofs.SlotSums.{is_holding-slot}
use Rattle.otel_batch.proofs.Soundness.{sound_slot}
use Rattle.otel_batch.proofs.machine.batch_machine.BatchMachine.send.Goals as goal

-- a producer whose span was queued holds none, has no wish under way and waits for nothing
after_send-counts : (batch n : ℕ) → slot_counts (after_send batch n) ≡ 0
after_send-counts batch n = grind (arith, common_steps)

after_send-asks : (batch n : ℕ) → slot_asks (after_send batch n) ≡ 0
after_send-asks batch n = grind (arith, common_steps)

after_send-waits : (batch n : ℕ) → slot_waits (Some (after_send batch n)) ≡ 0
after_send-waits batch n = grind (arith, common_steps)

pub invariant_of-self : goal.invariant_of-self
invariant_of-self g c =
    let at : is_holding (slice_get c.self.inside.slots.items c.args.p) ≡ true = grind (arith, common_steps) in
    let old = is_holding-slot (slice_get c.self.inside.slots.items c.args.p) at in
    rw c.set_slot.ensures (record { sound = sound_slot _ c.args.p (Holding old.0 old.1) Refused old.2 c.self.invariant.sound _ _ _ (omega arith) (omega arith) (omega arith) c.self.invariant.sound.fits.waiting_fits c.self.invariant.sound.fits.dropped_fits; room = c.self.invariant.room })

pub invariant_of-self-then-is_full : goal.invariant_of-self-then-is_full
invariant_of-self-then-is_full g c =
    let at : is_holding (slice_get c.self.inside.slots.items c.args.p) ≡ true = grind (arith, common_steps) in
    let old = is_holding-slot (slice_get c.self.inside.slots.items c.args.p) at in
    rw c.set_slot-then-is_full.ensures (record { sound = sound_slot _ c.args.p (Holding old.0 old.1) Refused old.2 c.self.invariant.sound _ _ _ (omega arith) (omega arith) (omega arith) c.self.invariant.sound.fits.waiting_fits (grind (arith, common_steps)); room = c.self.invariant.room })

pub invariant_of-self-2 : goal.invariant_of-self-2
invariant_of-self-2 g c =
    let at : is_holding (slice_get c.self.inside.slots.items c.args.p) ≡ true = grind (arith, common_steps) in
    let old = is_holding-slot (slice_get c.self.inside.slots.items c.args.p) at in
    let room : length c.self.inside.waiting.items < c.self.inside.waiting.capacity = grind (arith, common_steps, c.self.invariant.sound.fits.waiting_fits) in
    let took = (c.queue_span.ensures.queued (c.queue_span.ensures.room room)).1 in
    let more : length (c.self.inside.waiting.items ++ c.take_span-span.result ∷ []) ≡ length c.self.inside.waiting.items + 1 = grind (arith, common_steps) in
    let asked : c.after_send.result ≡ after_send c.self.inside.batch_size c.in-Some.n = c.after_send.ensures in
    rw (took, c.take_span-span.ensures.after) (record {
      sound = sound_slot _ c.args.p (Holding old.0 old.1) c.after_send.result old.2 c.self.invariant.sound _ _ _
          (omega (arith, more, ap slot_counts asked, after_send-counts c.self.inside.batch_size c.in-Some.n)) (omega (arith, ap slot_asks asked, after_send-asks c.self.inside.batch_size c.in-Some.n)) (omega (arith, ap (λ x. slot_waits (Some x)) asked, after_send-waits c.self.inside.batch_size c.in-Some.n)) (omega (arith, more, room)) c.self.invariant.sound.fits.dropped_fits;
      room = c.self.invariant.room;
    })

pub returns-clause-row : goal.returns-clause-row
returns-clause-row g c =
    let at : is_holding (slice_get c.self.inside.slots.items c.args.p) ≡ true = rw c.deref.ensures.value at c.in-Some.ensures.some in
    let number : number_held (slice_get c.self.inside.slots.items c.args.p) ≡ c.in-Some.n = rw c.deref.ensures.value at c.in-Some.ensures.number in
    let room : length c.self.inside.waiting.items < c.self.inside.waiting.capacity = grind (arith, common_steps, c.self.invariant.sound.fits.waiting_fits) in
    let took = (c.queue_span.ensures.queued (c.queue_span.ensures.room room)).1 in
    let more : length (c.self.inside.waiting.items ++ c.take_span-span.result ∷ []) ≡ length c.self.inside.waiting.items + 1 = grind (arith, common_steps) in
    rw (← c.self.view_is, took, c.take_span-span.ensures.after, c.after_send.ensures) (at, c.if-self.false, room, cc (more, number))

pub returns-clause-moved : goal.returns-clause-moved
returns-clause-moved g c =
    let room : length c.self.inside.waiting.items < c.self.inside.waiting.capacity = grind (arith, common_steps, c.self.invariant.sound.fits.waiting_fits) in
    let took = (c.queue_span.ensures.queued (c.queue_span.ensures.room room)).1 in
    rw (← c.self.view_is, took) (record { exporter = refl; hand = refl; waiting = rw c.take_span-span.ensures.span refl })

pub returns-then-is_full-clause-row : goal.returns-then-is_full-clause-row
returns-then-is_full-clause-row g c =
    let at : is_holding (slice_get c.self.inside.slots.items c.args.p) ≡ true = rw c.deref.ensures.value at c.in-Some.ensures.some in
    let full : length c.self.inside.waiting.items ≡ c.self.inside.waiting.capacity = grind (arith, common_steps) in
    rw (← c.self.view_is, c.set_slot-then-is_full.ensures, c.saturating_add-self-inside.ensures) (at, c.if-self.false, full, refl)
