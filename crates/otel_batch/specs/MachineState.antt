-- The state of a batch queue with its producers, its worker and its exporter.
use Rattle.std.specs.Prelude.{ℕ, ◌-◌, ◌==◌, Bool, false, min, List, [], length, replicate, Option, Some, None}
use Rattle.std.specs.Prelude.{slice_get, slice_set, Result, Ok, if◌then◌else◌}
use Rattle.otel_export.specs.declared.error.OTelSdkError.{OTelSdkError}
use Rattle.otel_export.specs.PlainSpanData.{PlainSpanData}
use Rattle.otel_batch.specs.PlainBatchConfig.{PlainBatchConfig}
use Rattle.otel_batch.specs.declared.machine.state.Slot.{Slot}
use Rattle.otel_batch.specs.declared.machine.state.Slot.TheVariants as slot
use Rattle.otel_batch.specs.declared.machine.state.Message.{Message}
use Rattle.otel_batch.specs.declared.machine.state.Worker.{Worker}
use Rattle.otel_batch.specs.declared.machine.state.Worker.TheVariants as worker
use Rattle.otel_batch.specs.declared.machine.state.Why.{Why}
use Rattle.otel_batch.specs.declared.machine.state.Why.TheVariants as why

-- all of the state but the spans that wait or are in hand and the exporter
pub record Control : Type 0 where
  -- how many spans are accounted for: those that wait or are in hand, and those that are yet to be queued or were
  -- handed over just now
  pub counter : ℕ
  -- somebody wishes that the worker exports
  pub flag : Bool
  -- the control queue, the oldest message first
  pub messages : List Message
  -- how many spans found the queue full, up to the greatest u64
  pub dropped : ℕ
  pub closed : Bool
  -- one a producer
  pub slots : List Slot
  pub worker : Worker
  -- why the worker drains, from its load on
  pub why : Why
  -- how many spans were accounted for when the drain was loaded, and how many of them it has handed over
  pub target : ℕ
  pub done : ℕ
  -- the first error of this drain, else the exporter's answer
  pub result : Result (Unit {0}) OTelSdkError
  -- the drain found no memory
  pub refused : Bool
  pub queue_size : ℕ
  pub batch_size : ℕ

-- the whole state
pub record Machine (E : Type 0) : Type 0 where
  pub control : Control
  -- the spans that were pulled and not handed over yet
  pub hand : List PlainSpanData
  pub waiting : List PlainSpanData
  pub exporter : E

-- the state in which of the spans that wait or are in hand only their number is seen, and nothing of the exporter
pub record Counts : Type 0 where
  pub control : Control
  pub hand : ℕ
  pub waiting : ℕ

abbrev pub counts : {E : Type 0} → Machine E → Counts
counts m = record { control = m.control; hand = length m.hand; waiting = length m.waiting }

-- the slot of a producer, where there is this producer
abbrev pub slot_at : Counts → ℕ → Option Slot
slot_at s p = slice_get s.control.slots p

-- the control queue has its 64 messages
abbrev pub is_crowded : Counts → Bool
is_crowded s = length s.control.messages == 64

-- the same state, but for the slot of p
abbrev pub put_slot : Counts → ℕ → Slot → Counts
put_slot s p x = record s { control = record s.control { slots = slice_set s.control.slots p x } }

-- the same state, but for the worker
abbrev pub put_worker : Counts → Worker → Counts
put_worker s w = record s { control = record s.control { worker = w } }

-- the most spans that a batch may have: the size of a batch, but no more than are left of the target. Where the size is
-- zero, all that the queue can hold
abbrev pub batch_limit : (queue_size batch_size target done : ℕ) → ℕ
batch_limit queue_size batch_size target done =
    if batch_size == 0 then queue_size else min batch_size (target - done)

-- how many spans a shutdown left after: those that wait in a machine that is closed
abbrev pub stranded_in : {E : Type 0} → Machine E → Option ℕ
stranded_in m = if m.control.closed then Some (length m.waiting) else None

-- the limit of the next batch
abbrev pub limit_of : Control → ℕ
limit_of c = batch_limit c.queue_size c.batch_size c.target c.done

-- the control of a machine as it is made
abbrev pub first_control : PlainBatchConfig → ℕ → Control
first_control config producers = record {
  counter = 0;
  flag = false;
  messages = [];
  dropped = 0;
  closed = false;
  slots = replicate producers slot.Idle;
  worker = worker.Ready;
  why = why.Asked;
  target = 0;
  done = 0;
  result = Ok tt;
  refused = false;
  queue_size = config.max_queue_size;
  batch_size = config.max_export_batch_size;
}

-- a machine as it is made: nothing waits, and all producers are idle
abbrev pub first_machine : {E : Type 0} → E → PlainBatchConfig → ℕ → Machine E
first_machine exporter config producers =
    record { control = first_control config producers; hand = []; waiting = []; exporter = exporter }
