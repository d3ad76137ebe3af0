use Rattle.std.proofs.Common.{◌≡◌, ◌≢◌, ℕ, Err}
use Rattle.std.proofs.lemmas.Option.{slice_get_within}
use Rattle.otel_export.specs.declared.error.OTelSdkError.TheVariants.{OutOfMemory}
use Rattle.otel_batch.specs.declared.machine.state.Slot.TheVariants.{Waiting}
use Rattle.otel_batch.specs.Workers.{worker_names, why_names}
use Rattle.otel_batch.proofs.SlotSums.{one_flush, one_shutdown, other_flush, other_shutdown}
use Rattle.otel_batch.proofs.Soundness.{awaits, sound_answered}
use Rattle.otel_batch.proofs.machine.batch_machine.BatchMachine.finish.Goals as goal

pub set_slot-requires : goal.set_slot-requires
set_slot-requires g c =
    let own : worker_names c.in-Flush.p c.self.inside.why c.self.inside.worker ≡ 1 = rw (c.in-Finishing.is, c.in-Flush.is) (one_flush c.in-Flush.p) in
    let waits = awaits c.self.inside.closed c.self.inside.messages.items c.self.inside.why c.self.inside.worker c.self.inside.slots.items c.in-Flush.p own c.self.invariant.sound.awaited in
    slice_get_within c.self.inside.slots.items c.in-Flush.p (Waiting waits.0) waits.1

pub invariant_of-self-in-Flush : goal.invariant_of-self-in-Flush
invariant_of-self-in-Flush g c =
    let own : why_names c.in-Flush.p c.self.inside.why ≡ 1 = rw c.in-Flush.is (one_flush c.in-Flush.p) in
    let others : (q : ℕ) → q ≢ c.in-Flush.p → why_names q c.self.inside.why ≡ 0 = λ q n. rw c.in-Flush.is (other_flush c.in-Flush.p q n) in
    rw c.set_slot.ensures (record {
      sound = sound_answered _ c.in-Flush.p (c.replace-answer.result) _ c.in-Finishing.is own others c.self.invariant.sound;
      room = record { hand = λ f. cc; control = c.self.invariant.room.control };
    })

pub set_slot-requires-then-self : goal.set_slot-requires-then-self
set_slot-requires-then-self g c =
    let own : worker_names c.in-Shutdown.p c.self.inside.why c.self.inside.worker ≡ 1 = rw (c.in-Finishing.is, c.in-Shutdown.is) (one_shutdown c.in-Shutdown.p) in
    let waits = awaits c.self.inside.closed c.self.inside.messages.items c.self.inside.why c.self.inside.worker c.self.inside.slots.items c.in-Shutdown.p own c.self.invariant.sound.awaited in
    slice_get_within c.self.inside.slots.items c.in-Shutdown.p (Waiting waits.0) waits.1

pub invariant_of-self-then-self : goal.invariant_of-self-then-self
invariant_of-self-then-self g c =
    let own : why_names c.in-Shutdown.p c.self.inside.why ≡ 1 = rw c.in-Shutdown.is (one_shutdown c.in-Shutdown.p) in
    let others : (q : ℕ) → q ≢ c.in-Shutdown.p → why_names q c.self.inside.why ≡ 0 = λ q n. rw c.in-Shutdown.is (other_shutdown c.in-Shutdown.p q n) in
    rw c.set_slot-then-self.ensures (record {
      sound = sound_answered _ c.in-Shutdown.p (Err OutOfMemory) _ c.in-Finishing.is own others c.self.invariant.sound;
      room = record { hand = λ f. cc; control = c.self.invariant.room.control };
    })
