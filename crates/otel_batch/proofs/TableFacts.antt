-- What every permitted step has in common, read off the table once.
use Rattle.std.proofs.Common.{◌≡◌, ◌∙◌, ap, sym, refl, ℕ, ◌≤◌, Bool, true, false, Option, Err, if◌then◌else◌, arith}
use Rattle.otel_resource.specs.Resource.{PlainResource}
use Rattle.otel_export.specs.declared.error.OTelSdkError.{OTelSdkError}
use Rattle.otel_export.specs.declared.error.OTelSdkError.TheVariants.{OutOfMemory}
use Rattle.otel_export.specs.PlainSpanData.{PlainSpanData}
use Rattle.otel_export.specs.StoredBatches.{one_more}
use Rattle.otel_batch.specs.MachineState.{Counts, put_slot}
use Rattle.otel_batch.specs.Drains.{is_workers}
use Rattle.otel_batch.specs.ProducerSteps.{OfferRow, SendRow, UndoRow, AskRow, PostRow, ResetRow}
use Rattle.otel_batch.specs.RequestSteps.{RequestRow, CollectRow, ResourceRow}
use Rattle.otel_batch.specs.WorkerSteps.{TakeRow, TickRow, ClearRow, LoadRow, PullRow, HandOverRow, SubtractRow}
use Rattle.otel_batch.specs.DrainEnds.{FinishRow, FinishRowFor, CloseRow, end_of_drain}
use Rattle.otel_batch.specs.PermittedStep.{IsPermitted}
use Rattle.otel_batch.specs.declared.machine.state.Slot.TheVariants as slot
use Rattle.otel_batch.specs.declared.machine.state.Request.{Request}
use Rattle.otel_batch.specs.declared.machine.state.Request.TheVariants as request
use Rattle.otel_batch.specs.declared.machine.state.Worker.TheVariants as worker
use Rattle.otel_batch.specs.declared.machine.state.Why.{Why}
use Rattle.otel_batch.specs.declared.machine.state.Why.TheVariants as why
use Rattle.otel_batch.specs.declared.machine.step.Outcome.{Outcome}
use Rattle.otel_batch.specs.declared.machine.step.Outcome.TheVariants as outcome
use Rattle.otel_batch.specs.declared.machine.step.Step.{Step}
use Rattle.otel_batch.specs.declared.machine.step.Step.TheVariants as step

-- the outcome is one that a producer's step can have
abbrev pub is_producers : Outcome → Bool
is_producers outcome.Skipped = true
is_producers (outcome.Counted n) = true
is_producers outcome.Accepted = true
is_producers outcome.Full = true
is_producers outcome.Closed = true
is_producers outcome.Undone = true
is_producers outcome.AlreadyAsked = true
is_producers outcome.MayPost = true
is_producers outcome.Posted = true
is_producers outcome.ResetDone = true
is_producers outcome.Requested = true
is_producers (outcome.Collected answer) = true
is_producers outcome.NotEnabled = true
is_producers _ = false

-- the dropped count after a step
abbrev pub dropped_after : Step → Outcome → ℕ → ℕ
dropped_after (step.Send p) outcome.Full dropped = one_more dropped
dropped_after x o dropped = dropped

-- the slots of a state that is another
pub slots_of : (t s : Counts) → t ≡ s → t.control.slots ≡ s.control.slots
slots_of t s e = ap (λ c. c.control.slots) e

-- what a step leaves as it was, or counts
pub record Leaves (x : Step) (o : Outcome) (s t : Counts) : Type 0 where
  pub queue_size : t.control.queue_size ≡ s.control.queue_size
  pub batch_size : t.control.batch_size ≡ s.control.batch_size
  pub dropped : t.control.dropped ≡ dropped_after x o s.control.dropped

-- a producer's step leaves the worker and its drain alone
pub record LeavesWorker (o : Outcome) (s t : Counts) : Type 0 where
  pub producers : is_producers o ≡ true
  pub worker : t.control.worker ≡ s.control.worker
  pub why : t.control.why ≡ s.control.why
  pub target : t.control.target ≡ s.control.target
  pub done : t.control.done ≡ s.control.done
  pub result : t.control.result ≡ s.control.result
  pub refused : t.control.refused ≡ s.control.refused
  pub hand : t.hand ≡ s.hand
  pub waiting : s.waiting ≤ t.waiting

leaves_by : (x : Step) (o : Outcome) (s t next : Counts) → t ≡ next →
    next.control.queue_size ≡ s.control.queue_size → next.control.batch_size ≡ s.control.batch_size →
    next.control.dropped ≡ dropped_after x o s.control.dropped → Leaves x o s t
leaves_by x o s t next e q b d = record {
  queue_size = ap (λ c. c.control.queue_size) e ∙ q;
  batch_size = ap (λ c. c.control.batch_size) e ∙ b;
  dropped = ap (λ c. c.control.dropped) e ∙ d;
}

alone_by : (o : Outcome) (s t next : Counts) → is_producers o ≡ true → t ≡ next →
    next.control.worker ≡ s.control.worker → next.control.why ≡ s.control.why →
    next.control.target ≡ s.control.target → next.control.done ≡ s.control.done →
    next.control.result ≡ s.control.result → next.control.refused ≡ s.control.refused → next.hand ≡ s.hand →
    s.waiting ≤ next.waiting → LeavesWorker o s t
alone_by o s t next producers e w y g d a f h more = record {
  producers = producers;
  worker = ap (λ c. c.control.worker) e ∙ w;
  why = ap (λ c. c.control.why) e ∙ y;
  target = ap (λ c. c.control.target) e ∙ g;
  done = ap (λ c. c.control.done) e ∙ d;
  result = ap (λ c. c.control.result) e ∙ a;
  refused = ap (λ c. c.control.refused) e ∙ f;
  hand = ap (λ c. c.hand) e ∙ h;
  waiting = let same : t.waiting ≡ next.waiting = ap (λ c. c.waiting) e in omega (arith, same, more);
}

offer_leaves : (s : Counts) (p : ℕ) (span : PlainSpanData) (o : Outcome) (t : Counts) → OfferRow s p span o t →
    Leaves (step.Offer p span) o s t
offer_leaves s p span outcome.Skipped t row = leaves_by _ _ _ _ _ row.2 refl refl refl
offer_leaves s p span (outcome.Counted n) t row = leaves_by _ _ _ _ _ row.3 refl refl refl
offer_leaves s p span outcome.NotEnabled t row = leaves_by _ _ _ _ _ row.1 refl refl refl
offer_leaves s p span _ t row = absurd row

offer_alone : (s : Counts) (p : ℕ) (span : PlainSpanData) (o : Outcome) (t : Counts) → OfferRow s p span o t →
    LeavesWorker o s t
offer_alone s p span outcome.Skipped t row = alone_by _ _ _ _ refl row.2 refl refl refl refl refl refl refl (omega arith)
offer_alone s p span (outcome.Counted n) t row = alone_by _ _ _ _ refl row.3 refl refl refl refl refl refl refl (omega arith)
offer_alone s p span outcome.NotEnabled t row = alone_by _ _ _ _ refl row.1 refl refl refl refl refl refl refl (omega arith)
offer_alone s p span _ t row = absurd row

send_leaves : (s : Counts) (p : ℕ) (o : Outcome) (t : Counts) → SendRow s p o t → Leaves (step.Send p) o s t
send_leaves s p outcome.Accepted t row = leaves_by _ _ _ _ _ row.3 refl refl refl
send_leaves s p outcome.Full t row = leaves_by _ _ _ _ _ row.3 refl refl refl
send_leaves s p outcome.Closed t row = leaves_by _ _ _ _ _ row.2 refl refl refl
send_leaves s p outcome.NotEnabled t row = leaves_by _ _ _ _ _ row.1 refl refl refl
send_leaves s p _ t row = absurd row

send_alone : (s : Counts) (p : ℕ) (o : Outcome) (t : Counts) → SendRow s p o t → LeavesWorker o s t
send_alone s p outcome.Accepted t row = alone_by _ _ _ _ refl row.3 refl refl refl refl refl refl refl (omega arith)
send_alone s p outcome.Full t row = alone_by _ _ _ _ refl row.3 refl refl refl refl refl refl refl (omega arith)
send_alone s p outcome.Closed t row = alone_by _ _ _ _ refl row.2 refl refl refl refl refl refl refl (omega arith)
send_alone s p outcome.NotEnabled t row = alone_by _ _ _ _ refl row.1 refl refl refl refl refl refl refl (omega arith)
send_alone s p _ t row = absurd row

undo_leaves : (s : Counts) (p : ℕ) (o : Outcome) (t : Counts) → UndoRow s p o t → Leaves (step.Undo p) o s t
undo_leaves s p outcome.Undone t row = leaves_by _ _ _ _ _ row.1 refl refl refl
undo_leaves s p outcome.NotEnabled t row = leaves_by _ _ _ _ _ row.1 refl refl refl
undo_leaves s p _ t row = absurd row

undo_alone : (s : Counts) (p : ℕ) (o : Outcome) (t : Counts) → UndoRow s p o t → LeavesWorker o s t
undo_alone s p outcome.Undone t row = alone_by _ _ _ _ refl row.1 refl refl refl refl refl refl refl (omega arith)
undo_alone s p outcome.NotEnabled t row = alone_by _ _ _ _ refl row.1 refl refl refl refl refl refl refl (omega arith)
undo_alone s p _ t row = absurd row

ask_leaves : (s : Counts) (p : ℕ) (o : Outcome) (t : Counts) → AskRow s p o t → Leaves (step.Ask p) o s t
ask_leaves s p outcome.AlreadyAsked t row = leaves_by _ _ _ _ _ row.2 refl refl refl
ask_leaves s p outcome.MayPost t row = leaves_by _ _ _ _ _ row.2 refl refl refl
ask_leaves s p outcome.NotEnabled t row = leaves_by _ _ _ _ _ row.1 refl refl refl
ask_leaves s p _ t row = absurd row

ask_alone : (s : Counts) (p : ℕ) (o : Outcome) (t : Counts) → AskRow s p o t → LeavesWorker o s t
ask_alone s p outcome.AlreadyAsked t row = alone_by _ _ _ _ refl row.2 refl refl refl refl refl refl refl (omega arith)
ask_alone s p outcome.MayPost t row = alone_by _ _ _ _ refl row.2 refl refl refl refl refl refl refl (omega arith)
ask_alone s p outcome.NotEnabled t row = alone_by _ _ _ _ refl row.1 refl refl refl refl refl refl refl (omega arith)
ask_alone s p _ t row = absurd row

post_leaves : (s : Counts) (p : ℕ) (o : Outcome) (t : Counts) → PostRow s p o t → Leaves (step.Post p) o s t
post_leaves s p outcome.Closed t row = leaves_by _ _ _ _ _ row.2 refl refl refl
post_leaves s p outcome.Full t row = leaves_by _ _ _ _ _ row.3 refl refl refl
post_leaves s p outcome.Posted t row = leaves_by _ _ _ _ _ row.3 refl refl refl
post_leaves s p outcome.NotEnabled t row = leaves_by _ _ _ _ _ row.1 refl refl refl
post_leaves s p _ t row = absurd row

post_alone : (s : Counts) (p : ℕ) (o : Outcome) (t : Counts) → PostRow s p o t → LeavesWorker o s t
post_alone s p outcome.Closed t row = alone_by _ _ _ _ refl row.2 refl refl refl refl refl refl refl (omega arith)
post_alone s p outcome.Full t row = alone_by _ _ _ _ refl row.3 refl refl refl refl refl refl refl (omega arith)
post_alone s p outcome.Posted t row = alone_by _ _ _ _ refl row.3 refl refl refl refl refl refl refl (omega arith)
post_alone s p outcome.NotEnabled t row = alone_by _ _ _ _ refl row.1 refl refl refl refl refl refl refl (omega arith)
post_alone s p _ t row = absurd row

reset_leaves : (s : Counts) (p : ℕ) (o : Outcome) (t : Counts) → ResetRow s p o t → Leaves (step.Reset p) o s t
reset_leaves s p outcome.ResetDone t row = leaves_by _ _ _ _ _ row.1 refl refl refl
reset_leaves s p outcome.NotEnabled t row = leaves_by _ _ _ _ _ row.1 refl refl refl
reset_leaves s p _ t row = absurd row

reset_alone : (s : Counts) (p : ℕ) (o : Outcome) (t : Counts) → ResetRow s p o t → LeavesWorker o s t
reset_alone s p outcome.ResetDone t row = alone_by _ _ _ _ refl row.1 refl refl refl refl refl refl refl (omega arith)
reset_alone s p outcome.NotEnabled t row = alone_by _ _ _ _ refl row.1 refl refl refl refl refl refl refl (omega arith)
reset_alone s p _ t row = absurd row

request_leaves : (s : Counts) (x : Step) (r : Request) (p : ℕ) (o : Outcome) (t : Counts) → ((o : Outcome) (d : ℕ) →
    dropped_after x o d ≡ d) → RequestRow s r p o t → Leaves x o s t
request_leaves s x r p outcome.Closed t same row = leaves_by _ _ _ _ _ row.2 refl refl (sym (same _ _))
request_leaves s x r p outcome.Full t same row = leaves_by _ _ _ _ _ row.3 refl refl (sym (same _ _))
request_leaves s x r p outcome.Requested t same row = leaves_by _ _ _ _ _ row.3 refl refl (sym (same _ _))
request_leaves s x r p outcome.NotEnabled t same row = leaves_by _ _ _ _ _ row.1 refl refl (sym (same _ _))
request_leaves s x r p _ t same row = absurd row

request_alone : (s : Counts) (r : Request) (p : ℕ) (o : Outcome) (t : Counts) → RequestRow s r p o t →
    LeavesWorker o s t
request_alone s r p outcome.Closed t row = alone_by _ _ _ _ refl row.2 refl refl refl refl refl refl refl (omega arith)
request_alone s r p outcome.Full t row = alone_by _ _ _ _ refl row.3 refl refl refl refl refl refl refl (omega arith)
request_alone s r p outcome.Requested t row = alone_by _ _ _ _ refl row.3 refl refl refl refl refl refl refl (omega arith)
request_alone s r p outcome.NotEnabled t row = alone_by _ _ _ _ refl row.1 refl refl refl refl refl refl refl (omega arith)
request_alone s r p _ t row = absurd row

collect_leaves : (s : Counts) (p : ℕ) (o : Outcome) (t : Counts) → CollectRow s p o t → Leaves (step.Collect p) o s t
collect_leaves s p (outcome.Collected answer) t row = leaves_by _ _ _ _ _ row.1 refl refl refl
collect_leaves s p outcome.NotEnabled t row = leaves_by _ _ _ _ _ row.1 refl refl refl
collect_leaves s p _ t row = absurd row

collect_alone : (s : Counts) (p : ℕ) (o : Outcome) (t : Counts) → CollectRow s p o t → LeavesWorker o s t
collect_alone s p (outcome.Collected answer) t row = alone_by _ _ _ _ refl row.1 refl refl refl refl refl refl refl (omega arith)
collect_alone s p outcome.NotEnabled t row = alone_by _ _ _ _ refl row.1 refl refl refl refl refl refl refl (omega arith)
collect_alone s p _ t row = absurd row

post_resource_leaves : (s : Counts) (resource : PlainResource) (o : Outcome) (t : Counts) →
    ResourceRow s resource o t → Leaves (step.PostResource resource) o s t
post_resource_leaves s resource outcome.Closed t row = leaves_by _ _ _ _ _ row.1 refl refl refl
post_resource_leaves s resource outcome.Full t row = leaves_by _ _ _ _ _ row.2 refl refl refl
post_resource_leaves s resource outcome.Posted t row = leaves_by _ _ _ _ _ row.2 refl refl refl
post_resource_leaves s resource _ t row = absurd row

post_resource_alone : (s : Counts) (resource : PlainResource) (o : Outcome) (t : Counts) →
    ResourceRow s resource o t → LeavesWorker o s t
post_resource_alone s resource outcome.Closed t row = alone_by _ _ _ _ refl row.1 refl refl refl refl refl refl refl (omega arith)
post_resource_alone s resource outcome.Full t row = alone_by _ _ _ _ refl row.2 refl refl refl refl refl refl refl (omega arith)
post_resource_alone s resource outcome.Posted t row = alone_by _ _ _ _ refl row.2 refl refl refl refl refl refl refl (omega arith)
post_resource_alone s resource _ t row = absurd row

take_leaves : (s : Counts) (o : Outcome) (t : Counts) → TakeRow s o t → Leaves step.Take o s t
take_leaves s outcome.Nothing t row = leaves_by _ _ _ _ _ row.2 refl refl refl
take_leaves s outcome.TookExport t row = leaves_by _ _ _ _ _ row.2 refl refl refl
take_leaves s (outcome.TookFlush p) t row = leaves_by _ _ _ _ _ row.2 refl refl refl
take_leaves s (outcome.TookShutdown p) t row = leaves_by _ _ _ _ _ row.2 refl refl refl
take_leaves s outcome.TookResource t row = leaves_by _ _ _ _ _ row.2 refl refl refl
take_leaves s outcome.NotEnabled t row = leaves_by _ _ _ _ _ row.1 refl refl refl
take_leaves s _ t row = absurd row

tick_leaves : (s : Counts) (o : Outcome) (t : Counts) → TickRow s o t → Leaves step.Tick o s t
tick_leaves s outcome.Ticked t row = leaves_by _ _ _ _ _ row.1 refl refl refl
tick_leaves s outcome.NotEnabled t row = leaves_by _ _ _ _ _ row.1 refl refl refl
tick_leaves s _ t row = absurd row

clear_leaves : (s : Counts) (o : Outcome) (t : Counts) → ClearRow s o t → Leaves step.Clear o s t
clear_leaves s outcome.Cleared t row = leaves_by _ _ _ _ _ row.1 refl refl refl
clear_leaves s outcome.NotEnabled t row = leaves_by _ _ _ _ _ row.1 refl refl refl
clear_leaves s _ t row = absurd row

load_leaves : (s : Counts) (o : Outcome) (t : Counts) → LoadRow s o t → Leaves step.Load o s t
load_leaves s (outcome.Loaded n) t row = leaves_by _ _ _ _ _ row.3 refl refl refl
load_leaves s outcome.NotEnabled t row = leaves_by _ _ _ _ _ row.1 refl refl refl
load_leaves s _ t row = absurd row

pull_leaves : (s : Counts) (o : Outcome) (t : Counts) → PullRow s o t → Leaves step.Pull o s t
pull_leaves s outcome.Empty t row = leaves_by _ _ _ _ _ row.2 refl refl refl
pull_leaves s outcome.NoMemory t row = leaves_by _ _ _ _ _ row.3 refl refl refl
pull_leaves s outcome.Pulled t row = leaves_by _ _ _ _ _ row.2 refl refl refl
pull_leaves s outcome.NotEnabled t row = leaves_by _ _ _ _ _ row.1 refl refl refl
pull_leaves s _ t row = absurd row

hand_over_leaves : (s : Counts) (o : Outcome) (t : Counts) → HandOverRow s o t → Leaves step.HandOver o s t
hand_over_leaves s (outcome.HandedOver k e) t row = leaves_by _ _ _ _ _ row.3 refl refl refl
hand_over_leaves s outcome.NotEnabled t row = leaves_by _ _ _ _ _ row.1 refl refl refl
hand_over_leaves s _ t row = absurd row

subtract_leaves : (s : Counts) (o : Outcome) (t : Counts) → SubtractRow s o t → Leaves step.Subtract o s t
subtract_leaves s outcome.Subtracted t row = leaves_by _ _ _ _ _ row.2 refl refl refl
subtract_leaves s outcome.NotEnabled t row = leaves_by _ _ _ _ _ row.1 refl refl refl
subtract_leaves s _ t row = absurd row

close_leaves : (s : Counts) (o : Outcome) (t : Counts) → CloseRow s o t → Leaves step.Close o s t
close_leaves s (outcome.ShutDown n) t row = leaves_by _ _ _ _ _ row.3 refl refl refl
close_leaves s outcome.NotEnabled t row = leaves_by _ _ _ _ _ row.1 refl refl refl
close_leaves s _ t row = absurd row

finished_leaves : (y : Why) (s : Counts) (e : Option OTelSdkError) (t : Counts) → FinishRowFor y s e t →
    Leaves step.Finish (outcome.Finished e) s t
finished_leaves why.Asked s e t row = leaves_by _ _ _ _ _ row.1 refl refl refl
finished_leaves why.Timer s e t row = leaves_by _ _ _ _ _ row.1 refl refl refl
finished_leaves (why.Flush p) s e t row = leaves_by _ _ _ _ _ row.1 refl refl refl
finished_leaves (why.Shutdown p) s e t row = shut s.control.refused row.1
  where
    shut : (b : Bool) → t ≡ (if b
        then put_slot (end_of_drain s worker.Ready) p (slot.Answered (Err OutOfMemory))
        else end_of_drain s (worker.Closing p)) → Leaves step.Finish (outcome.Finished e) s t
    shut true eq = leaves_by _ _ _ _ _ eq refl refl refl
    shut false eq = leaves_by _ _ _ _ _ eq refl refl refl

finish_leaves : (s : Counts) (o : Outcome) (t : Counts) → FinishRow s o t → Leaves step.Finish o s t
finish_leaves s (outcome.Finished e) t row = finished_leaves s.control.why s e t row.1
finish_leaves s outcome.NotEnabled t row = leaves_by _ _ _ _ _ row.1 refl refl refl
finish_leaves s _ t row = absurd row

-- what every step leaves
pub permitted-leaves : (s : Counts) (x : Step) (o : Outcome) (t : Counts) → IsPermitted s x o t → Leaves x o s t
permitted-leaves s (step.Offer p span) o t row = offer_leaves s p span o t row
permitted-leaves s (step.Send p) o t row = send_leaves s p o t row
permitted-leaves s (step.Undo p) o t row = undo_leaves s p o t row
permitted-leaves s (step.Ask p) o t row = ask_leaves s p o t row
permitted-leaves s (step.Post p) o t row = post_leaves s p o t row
permitted-leaves s (step.Reset p) o t row = reset_leaves s p o t row
permitted-leaves s (step.RequestFlush p) o t row = request_leaves s (step.RequestFlush p) request.Flush p o t (λ o d. refl) row
permitted-leaves s (step.RequestShutdown p) o t row = request_leaves s (step.RequestShutdown p) request.Shutdown p o t (λ o d. refl) row
permitted-leaves s (step.Collect p) o t row = collect_leaves s p o t row
permitted-leaves s (step.PostResource resource) o t row = post_resource_leaves s resource o t row
permitted-leaves s step.Take o t row = take_leaves s o t row
permitted-leaves s step.Tick o t row = tick_leaves s o t row
permitted-leaves s step.Clear o t row = clear_leaves s o t row
permitted-leaves s step.Load o t row = load_leaves s o t row
permitted-leaves s step.Pull o t row = pull_leaves s o t row
permitted-leaves s step.HandOver o t row = hand_over_leaves s o t row
permitted-leaves s step.Subtract o t row = subtract_leaves s o t row
permitted-leaves s step.Close o t row = close_leaves s o t row
permitted-leaves s step.Finish o t row = finish_leaves s o t row

-- what a producer's step leaves
pub permitted-alone : (s : Counts) (x : Step) (o : Outcome) (t : Counts) → is_workers x ≡ false → IsPermitted s x o t →
    LeavesWorker o s t
permitted-alone s (step.Offer p span) o t not row = offer_alone s p span o t row
permitted-alone s (step.Send p) o t not row = send_alone s p o t row
permitted-alone s (step.Undo p) o t not row = undo_alone s p o t row
permitted-alone s (step.Ask p) o t not row = ask_alone s p o t row
permitted-alone s (step.Post p) o t not row = post_alone s p o t row
permitted-alone s (step.Reset p) o t not row = reset_alone s p o t row
permitted-alone s (step.RequestFlush p) o t not row = request_alone s request.Flush p o t row
permitted-alone s (step.RequestShutdown p) o t not row = request_alone s request.Shutdown p o t row
permitted-alone s (step.Collect p) o t not row = collect_alone s p o t row
permitted-alone s (step.PostResource resource) o t not row = post_resource_alone s resource o t row
permitted-alone s step.Take o t not row = absurd (cc)
permitted-alone s step.Tick o t not row = absurd (cc)
permitted-alone s step.Clear o t not row = absurd (cc)
permitted-alone s step.Load o t not row = absurd (cc)
permitted-alone s step.Pull o t not row = absurd (cc)
permitted-alone s step.HandOver o t not row = absurd (cc)
permitted-alone s step.Subtract o t not row = absurd (cc)
permitted-alone s step.Close o t not row = absurd (cc)
permitted-alone s step.Finish o t not row = absurd (cc)

-- a step that is not enabled changes nothing
pub permitted-rests : (s : Counts) (x : Step) (t : Counts) → IsPermitted s x outcome.NotEnabled t → t ≡ s
permitted-rests s (step.Offer p span) t row = row.1
permitted-rests s (step.Send p) t row = row.1
permitted-rests s (step.Undo p) t row = row.1
permitted-rests s (step.Ask p) t row = row.1
permitted-rests s (step.Post p) t row = row.1
permitted-rests s (step.Reset p) t row = row.1
permitted-rests s (step.RequestFlush p) t row = row.1
permitted-rests s (step.RequestShutdown p) t row = row.1
permitted-rests s (step.Collect p) t row = row.1
permitted-rests s (step.PostResource resource) t row = absurd row
permitted-rests s step.Take t row = row.1
permitted-rests s step.Tick t row = row.1
permitted-rests s step.Clear t row = row.1
permitted-rests s step.Load t row = row.1
permitted-rests s step.Pull t row = row.1
permitted-rests s step.HandOver t row = row.1
permitted-rests s step.Subtract t row = row.1
permitted-rests s step.Close t row = row.1
permitted-rests s step.Finish t row = row.1

-- only the worker's hand-over hands a batch over, which is what was in its hand
pub handed_over-hands : (s : Counts) (x : Step) (k : ℕ) (e : Option OTelSdkError) (t : Counts) →
    IsPermitted s x (outcome.HandedOver k e) t → (s.control.worker ≡ worker.Handing) × (k ≡ s.hand)
handed_over-hands s (step.Offer p span) k e t row = absurd row
handed_over-hands s (step.Send p) k e t row = absurd row
handed_over-hands s (step.Undo p) k e t row = absurd row
handed_over-hands s (step.Ask p) k e t row = absurd row
handed_over-hands s (step.Post p) k e t row = absurd row
handed_over-hands s (step.Reset p) k e t row = absurd row
handed_over-hands s (step.RequestFlush p) k e t row = absurd row
handed_over-hands s (step.RequestShutdown p) k e t row = absurd row
handed_over-hands s (step.Collect p) k e t row = absurd row
handed_over-hands s (step.PostResource resource) k e t row = absurd row
handed_over-hands s step.Take k e t row = absurd row
handed_over-hands s step.Tick k e t row = absurd row
handed_over-hands s step.Clear k e t row = absurd row
handed_over-hands s step.Load k e t row = absurd row
handed_over-hands s step.Pull k e t row = absurd row
handed_over-hands s step.HandOver k e t row = (row.0, row.1)
handed_over-hands s step.Subtract k e t row = absurd row
handed_over-hands s step.Close k e t row = absurd row
handed_over-hands s step.Finish k e t row = absurd row
