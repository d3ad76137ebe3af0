-- What holds of every batch queue.
use Rattle.std.specs.Prelude.{◌≡◌, ℕ, ◌+◌, ◌≤◌, ◌<◌, ◌^◌, Bool, true, false, List, [], length, sum_by, slice_get}
use Rattle.otel_batch.specs.Slots.{slot_counts, slot_asks, slot_waits}
use Rattle.otel_batch.specs.Messages.{message_asks, message_names}
use Rattle.otel_batch.specs.Workers.{worker_counts, worker_asks, worker_names, is_draining, is_filling, is_pulling}
use Rattle.otel_batch.specs.Workers.{is_handing, is_gone}
use Rattle.otel_batch.specs.MachineState.{Counts, batch_limit, limit_of}
use Rattle.otel_batch.specs.declared.machine.state.Slot.{Slot}
use Rattle.otel_batch.specs.declared.machine.state.Message.{Message}
use Rattle.otel_batch.specs.declared.machine.state.Worker.{Worker}
use Rattle.otel_batch.specs.declared.machine.state.Why.{Why}

-- the counter accounts for the spans that wait, those in hand, those being subtracted, and those of the producers
pub record AccountsForSpans (counter waiting hand : ℕ) (worker : Worker) (slots : List Slot) : Type 0 where
  pub total : counter ≡ waiting + hand + worker_counts worker + sum_by slot_counts slots

-- how many wishes to export there are: as messages, at producers, and at the worker
abbrev pub wishes : List Message → Worker → List Slot → ℕ
wishes messages worker slots = sum_by message_asks messages + sum_by slot_asks slots + worker_asks worker

-- there is at most one wish to export: none where the flag is clear, and one where it is set and the machine is open
pub record HasOneWish (closed flag : Bool) (messages : List Message) (worker : Worker) (slots : List Slot)
    : Type 0 where
  pub clear : flag ≡ false → wishes messages worker slots ≡ 0
  pub set : closed ≡ false → flag ≡ true → wishes messages worker slots ≡ 1
  pub most : wishes messages worker slots ≤ 1

-- where a drain is
pub record DrainsWithinLimits (queue_size batch_size producers target done hand : ℕ) (worker : Worker) : Type 0 where
  -- a target is at most the size of the queue and the number of producers
  pub target_fits : target ≤ queue_size + producers
  pub done_fits : done ≤ target + queue_size
  pub on : is_draining worker ≡ true → done < target
  -- a batch is not empty, and has no more spans than its limit
  pub hand_empty : is_filling worker ≡ false → hand ≡ 0
  pub hand_fits : hand ≤ batch_limit queue_size batch_size target done
  pub pulling : is_pulling worker ≡ true → 0 < hand → hand < batch_limit queue_size batch_size target done
  pub handing : is_handing worker ≡ true → 0 < hand
  pub subtracting_fits : worker_counts worker ≤ batch_limit queue_size batch_size target done

-- no request is lost: those of each producer in the control queue, and the one that the worker is at, are one where the
-- producer waits, and else none. Once the worker is gone, which is when the machine is closed, the queue is empty
pub record LosesNoRequest (closed : Bool) (messages : List Message) (why : Why) (worker : Worker) (slots : List Slot)
    : Type 0 where
  pub each : (p : ℕ) →
      sum_by (message_names p) messages + worker_names p why worker ≡ slot_waits (slice_get slots p)
  pub gone : closed ≡ is_gone worker
  pub empty : closed ≡ true → messages ≡ []

-- what is kept fits its place
pub record FitsItsPlaces (queue_size batch_size waiting producers messages dropped : ℕ) : Type 0 where
  pub queue_fits : queue_size < 2 ^ 64
  pub batch_fits : batch_size ≤ queue_size
  pub waiting_fits : waiting ≤ queue_size
  pub producers_fit : producers < 2 ^ 64
  pub messages_fit : messages ≤ 64
  pub dropped_fits : dropped < 2 ^ 64

-- what holds of every batch queue
pub record IsSound (s : Counts) : Type 0 where
  pub counted : AccountsForSpans s.control.counter s.waiting s.hand s.control.worker s.control.slots
  pub asked : HasOneWish s.control.closed s.control.flag s.control.messages s.control.worker s.control.slots
  pub drain : DrainsWithinLimits s.control.queue_size s.control.batch_size (length s.control.slots)
      s.control.target s.control.done s.hand s.control.worker
  pub awaited : LosesNoRequest s.control.closed s.control.messages s.control.why s.control.worker s.control.slots
  pub fits : FitsItsPlaces s.control.queue_size s.control.batch_size s.waiting (length s.control.slots)
      (length s.control.messages) s.control.dropped

-- the room for the hand and for the control queue: a hand that is being filled has room for the whole batch
pub record HasRoom (worker : Worker) (limit len capacity places : ℕ) : Type 0 where
  pub hand : is_pulling worker ≡ true → 0 < len → limit ≤ capacity
  pub control : places ≡ 64

-- what holds of every batch queue and of its memory
pub record IsKept (s : Counts) (len capacity places : ℕ) : Type 0 where
  pub sound : IsSound s
  pub room : HasRoom s.control.worker (limit_of s.control) len capacity places
