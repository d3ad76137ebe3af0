-- The part of the batch queue's table by which the worker takes messages and drains the queue, up to where the drain
-- ends.
use Rattle.std.specs.Prelude.{◌≡◌, ℕ, ◌+◌, ◌-◌, ◌<◌, ◌==◌, true, false, Some, Ok, Err, [], drop, slice_get, nat_lt}
use Rattle.std.specs.Prelude.{if◌then◌else◌}
use Rattle.otel_export.specs.declared.error.OTelSdkError.TheVariants.{OutOfMemory}
use Rattle.otel_batch.specs.Messages.{is_resource}
use Rattle.otel_batch.specs.Workers.{is_ready, is_clearing, is_loading, is_pulling, is_handing, is_subtracting}
use Rattle.otel_batch.specs.MachineState.{Counts, limit_of, put_worker}
use Rattle.otel_batch.specs.DrainResult.{first_failure, KeepsFailure}
use Rattle.otel_batch.specs.declared.machine.state.Worker.{Worker}
use Rattle.otel_batch.specs.declared.machine.state.Worker.TheVariants as worker
use Rattle.otel_batch.specs.declared.machine.state.Why.{Why}
use Rattle.otel_batch.specs.declared.machine.state.Why.TheVariants as why
use Rattle.otel_batch.specs.declared.machine.state.Message.TheVariants as message
use Rattle.otel_batch.specs.declared.machine.step.Outcome.{Outcome}
use Rattle.otel_batch.specs.declared.machine.step.Outcome.TheVariants as outcome

-- the worker is at w, after it took the first message
abbrev pub took_first : Counts → Worker → Counts
took_first s w = record s { control = record s.control { messages = drop 1 s.control.messages; worker = w } }

-- the oldest message decides
abbrev pub TakeRow : Counts → Outcome → Counts → Type 0
TakeRow s outcome.Nothing t = (s.control.worker ≡ worker.Ready) × (s.control.messages ≡ []) × (t ≡ s)
TakeRow s outcome.TookExport t =
    (s.control.worker ≡ worker.Ready)
    × (slice_get s.control.messages 0 ≡ Some message.Export)
    × (t ≡ took_first s worker.Clearing)
TakeRow s (outcome.TookFlush p) t =
    (s.control.worker ≡ worker.Ready)
    × (slice_get s.control.messages 0 ≡ Some (message.Flush p))
    × (t ≡ took_first s (worker.Loading (why.Flush p)))
TakeRow s (outcome.TookShutdown p) t =
    (s.control.worker ≡ worker.Ready)
    × (slice_get s.control.messages 0 ≡ Some (message.Shutdown p))
    × (t ≡ took_first s (worker.Loading (why.Shutdown p)))
TakeRow s outcome.TookResource t =
    (s.control.worker ≡ worker.Ready)
    × (is_resource (slice_get s.control.messages 0) ≡ true)
    × (t ≡ took_first s worker.Ready)
TakeRow s outcome.NotEnabled t = (is_ready s.control.worker ≡ false) × (t ≡ s)
TakeRow s _ t = ⊥

-- the timer wants a drain
abbrev pub TickRow : Counts → Outcome → Counts → Type 0
TickRow s outcome.Ticked t =
    (s.control.worker ≡ worker.Ready) × (t ≡ put_worker s (worker.Loading why.Timer))
TickRow s outcome.NotEnabled t = (is_ready s.control.worker ≡ false) × (t ≡ s)
TickRow s _ t = ⊥

-- the flag is clear before the drain is loaded, so that a later wish is not lost
abbrev pub ClearRow : Counts → Outcome → Counts → Type 0
ClearRow s outcome.Cleared t =
    (s.control.worker ≡ worker.Clearing)
    × (t ≡ record s { control = record s.control { flag = false; worker = worker.Loading why.Asked } })
ClearRow s outcome.NotEnabled t = (is_clearing s.control.worker ≡ false) × (t ≡ s)
ClearRow s _ t = ⊥

-- a drain starts: its target is the counter
abbrev pub LoadRow : Counts → Outcome → Counts → Type 0
LoadRow s (outcome.Loaded n) t =
    (reason : Why)
    × (s.control.worker ≡ worker.Loading reason)
    × (n ≡ s.control.counter)
    × (t ≡ record s {
      control = record s.control {
        target = n;
        done = 0;
        result = Ok tt;
        refused = false;
        why = reason;
        worker = if n == 0 then worker.Finishing else worker.Pulling;
      };
    })
LoadRow s outcome.NotEnabled t = (is_loading s.control.worker ≡ false) × (t ≡ s)
LoadRow s _ t = ⊥

-- one span goes from the queue into the hand. Where none waits, the hand is a batch unless it is empty. For want of
-- memory for a whole batch, which only an empty hand can meet, nothing is taken, and the drain is refused, which is its
-- result unless a batch failed before
abbrev pub PullRow : Counts → Outcome → Counts → Type 0
PullRow s outcome.Empty t =
    (s.control.worker ≡ worker.Pulling)
    × (s.waiting ≡ 0)
    × (t ≡ put_worker s (if s.hand == 0 then worker.Finishing else worker.Handing))
PullRow s outcome.NoMemory t =
    (s.control.worker ≡ worker.Pulling)
    × (0 < s.waiting)
    × (s.hand ≡ 0)
    × (t ≡ record s {
      control = record s.control {
        refused = true;
        result = first_failure s.control.result (Err OutOfMemory);
        worker = worker.Finishing;
      };
    })
PullRow s outcome.Pulled t =
    (s.control.worker ≡ worker.Pulling)
    × (s.waiting ≡ t.waiting + 1)
    × (t ≡ record {
      hand = s.hand + 1;
      waiting = t.waiting;
      control = record s.control {
        worker = if nat_lt (s.hand + 1) (limit_of s.control) then worker.Pulling else worker.Handing;
      };
    })
PullRow s outcome.NotEnabled t = (is_pulling s.control.worker ≡ false) × (t ≡ s)
PullRow s _ t = ⊥

-- the hand is exported, with the error of this batch, and the drain's result is the exporter's answer unless a batch
-- failed before
abbrev pub HandOverRow : Counts → Outcome → Counts → Type 0
HandOverRow s (outcome.HandedOver k e) t =
    (s.control.worker ≡ worker.Handing)
    × (k ≡ s.hand)
    × KeepsFailure s.control.result e t.control.result
    × (t ≡ record {
      hand = 0;
      waiting = s.waiting;
      control = record s.control { worker = worker.Subtracting k; result = t.control.result };
    })
HandOverRow s outcome.NotEnabled t = (is_handing s.control.worker ≡ false) × (t ≡ s)
HandOverRow s _ t = ⊥

-- the spans that were handed over are no longer counted, and the drain goes on below its target
abbrev pub SubtractRow : Counts → Outcome → Counts → Type 0
SubtractRow s outcome.Subtracted t =
    (k : ℕ)
    × (s.control.worker ≡ worker.Subtracting k)
    × (t ≡ record s {
      control = record s.control {
        counter = s.control.counter - k;
        done = s.control.done + k;
        worker = if nat_lt (s.control.done + k) s.control.target then worker.Pulling else worker.Finishing;
      };
    })
SubtractRow s outcome.NotEnabled t = (is_subtracting s.control.worker ≡ false) × (t ≡ s)
SubtractRow s _ t = ⊥
