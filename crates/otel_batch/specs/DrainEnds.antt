-- The part of the batch queue's table by which the worker ends a drain, and completes a shutdown.
use Rattle.std.specs.Prelude.{◌≡◌, ℕ, zero, suc, true, false, Option, Some, None, Ok, Err, sum_by, [], length}
use Rattle.std.specs.Prelude.{slice_get, slice_set, if◌then◌else◌}
use Rattle.std.specs.Result.{result_err}
use Rattle.otel_export.specs.declared.error.OTelSdkError.{OTelSdkError}
use Rattle.otel_export.specs.declared.error.OTelSdkError.TheVariants.{InternalFailure, OutOfMemory}
use Rattle.otel_batch.specs.Messages.{message_names}
use Rattle.otel_batch.specs.Workers.{is_finishing, is_closing, closing_of}
use Rattle.otel_batch.specs.MachineState.{Counts, slot_at, put_slot}
use Rattle.otel_batch.specs.declared.machine.state.Slot.{Slot}
use Rattle.otel_batch.specs.declared.machine.state.Slot.TheVariants as slot
use Rattle.otel_batch.specs.declared.machine.state.Worker.{Worker}
use Rattle.otel_batch.specs.declared.machine.state.Worker.TheVariants as worker
use Rattle.otel_batch.specs.declared.machine.state.Why.{Why}
use Rattle.otel_batch.specs.declared.machine.state.Why.TheVariants as why
use Rattle.otel_batch.specs.declared.machine.step.Outcome.{Outcome}
use Rattle.otel_batch.specs.declared.machine.step.Outcome.TheVariants as outcome

-- the drain is over, and its result moved out
abbrev pub end_of_drain : Counts → Worker → Counts
end_of_drain s w = record s { control = record s.control { result = Ok tt; worker = w } }

-- the result goes to who asked: with the outcome, or to the producer that waits. A shutdown whose drain found no memory
-- is answered so, and the machine stays open
abbrev pub FinishRowFor : Why → Counts → Option OTelSdkError → Counts → Type 0
FinishRowFor why.Asked s e t = (e ≡ result_err s.control.result) × (t ≡ end_of_drain s worker.Ready)
FinishRowFor why.Timer s e t = (e ≡ result_err s.control.result) × (t ≡ end_of_drain s worker.Ready)
FinishRowFor (why.Flush p) s e t =
    (e ≡ None) × (t ≡ put_slot (end_of_drain s worker.Ready) p (slot.Answered s.control.result))
FinishRowFor (why.Shutdown p) s e t =
    (e ≡ None)
    × (t ≡ (if s.control.refused
    then put_slot (end_of_drain s worker.Ready) p (slot.Answered (Err OutOfMemory))
    else end_of_drain s (worker.Closing p)))

-- the drain ends, for the reason for which it was loaded
abbrev pub FinishRow : Counts → Outcome → Counts → Type 0
FinishRow s (outcome.Finished e) t = (s.control.worker ≡ worker.Finishing) × FinishRowFor s.control.why s e t
FinishRow s outcome.NotEnabled t = (is_finishing s.control.worker ≡ false) × (t ≡ s)
FinishRow s _ t = ⊥

-- the slot says that its request was dropped
abbrev pub SaysDropped : Option Slot → Type 0
SaysDropped (Some (slot.Answered (Err (InternalFailure text)))) = Unit {0}
SaysDropped _ = ⊥

-- the slot of a producer that has so many requests in the control queue, before and after they are dropped
abbrev pub IsDropped : ℕ → Option Slot → Option Slot → Type 0
IsDropped zero old new = new ≡ old
IsDropped (suc n) old new = SaysDropped new

-- the one who asked for the shutdown has Ok, whoever else has a request in the control queue has an error, there are as
-- many producers as before, the control queue is empty, and the outcome says how many spans still wait
abbrev pub CloseRow : Counts → Outcome → Counts → Type 0
CloseRow s (outcome.ShutDown n) t =
    (is_closing s.control.worker ≡ true)
    × ((p : ℕ) → IsDropped (sum_by (message_names p) s.control.messages)
    (slice_get (slice_set s.control.slots (closing_of s.control.worker) (slot.Answered (Ok tt))) p)
    (slot_at t p))
    × (length t.control.slots ≡ length s.control.slots)
    × (t ≡ record s {
      control = record s.control {
        messages = [];
        slots = t.control.slots;
        closed = true;
        worker = worker.Gone;
      };
    })
    × (n ≡ s.waiting)
CloseRow s outcome.NotEnabled t = (is_closing s.control.worker ≡ false) × (t ≡ s)
CloseRow s _ t = ⊥
