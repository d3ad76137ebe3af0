use Rattle.std.proofs.Common.{arith}
use Rattle.otel_batch.specs.declared.machine.state.Slot.TheVariants.{Idle, Answered}
use Rattle.otel_batch.proofs.Soundness.{sound_slot}
use Rattle.otel_batch.proofs.machine.batch_machine.BatchMachine.collect.Goals as goal

pub invariant_of-self-2 : goal.invariant_of-self-2
invariant_of-self-2 g c =
    rw c.in-Some.ensures.after (record { sound = sound_slot _ c.args.p (Answered c.in-Some.answer) Idle c.in-Some.ensures.some c.self.invariant.sound _ _ _ (omega arith) (omega arith) (omega arith) c.self.invariant.sound.fits.waiting_fits c.self.invariant.sound.fits.dropped_fits; room = c.self.invariant.room })
