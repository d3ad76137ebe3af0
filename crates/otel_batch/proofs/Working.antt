-- Each step of the worker that finds something to do lessens the work that is left.
use Rattle.std.proofs.Common.{◌≡◌, inl, inr, ap, refl, suc, ℕ, ◌+◌, ◌*◌, ◌<◌, ◌≤◌, Bool, true, false, ◌&&◌, List, [], ◌∷◌, ◌++◌, length, length-append, Option, Some, Err, drop, slice_get, nat_lt, ◌==◌, if◌then◌else◌, arith}
use Rattle.std.proofs.lemmas.Bool.Decides.{eqb_tells}
use Rattle.otel_export.specs.declared.error.OTelSdkError.{OTelSdkError}
use Rattle.otel_export.specs.declared.error.OTelSdkError.TheVariants.{OutOfMemory}
use Rattle.otel_resource.specs.Resource.{PlainResource}
use Rattle.otel_export.specs.PlainSpanData.{PlainSpanData}
use Rattle.otel_batch.specs.Messages.{is_resource, message_of}
use Rattle.otel_batch.specs.MachineState.{Machine, Counts, counts, limit_of, put_slot}
use Rattle.otel_batch.specs.MachineRun.{Run}
use Rattle.otel_batch.specs.ProducerSteps.{OfferRow, SendRow, UndoRow, AskRow, PostRow, ResetRow}
use Rattle.otel_batch.specs.RequestSteps.{RequestRow, CollectRow, ResourceRow}
use Rattle.otel_batch.specs.WorkerSteps.{TakeRow, TickRow, ClearRow, LoadRow, PullRow, HandOverRow, SubtractRow}
use Rattle.otel_batch.specs.DrainEnds.{FinishRow, FinishRowFor, CloseRow, end_of_drain}
use Rattle.otel_batch.specs.PermittedStep.{IsPermitted}
use Rattle.otel_batch.specs.WorkLeft.{worker_work, hand_work, work_left, is_work, work_steps, adds_work, work_added}
use Rattle.otel_batch.specs.Workers.{is_closing}
use Rattle.otel_batch.specs.Drains.{is_workers}
use Rattle.otel_batch.specs.declared.machine.state.Message.{Message}
use Rattle.otel_batch.specs.declared.machine.state.Message.TheVariants as message
use Rattle.otel_batch.specs.declared.machine.state.Request.{Request}
use Rattle.otel_batch.specs.declared.machine.state.Request.TheVariants as request
use Rattle.otel_batch.specs.declared.machine.state.Slot.TheVariants as slot
use Rattle.otel_batch.specs.declared.machine.state.Worker.{Worker}
use Rattle.otel_batch.specs.declared.machine.state.Worker.TheVariants as worker
use Rattle.otel_batch.specs.declared.machine.state.Why.{Why}
use Rattle.otel_batch.specs.declared.machine.state.Why.TheVariants as why
use Rattle.otel_batch.specs.declared.machine.step.Outcome.{Outcome}
use Rattle.otel_batch.specs.declared.machine.step.Outcome.TheVariants as outcome
use Rattle.otel_batch.specs.declared.machine.step.Step.{Step}
use Rattle.otel_batch.specs.declared.machine.step.Step.TheVariants as step
use Rattle.otel_export.specs.declared.trace.export.SpanExporter.{Ghosts}
use Rattle.otel_batch.proofs.Dropping.{first_and_rest}
use Rattle.otel_batch.proofs.TableFacts.{permitted-rests}

-- the first of a list is one of its elements
one_less : {X : Type 0} (xs : List X) (x : X) → slice_get xs 0 ≡ Some x → length xs ≡ suc (length (drop 1 xs))
one_less xs x e = ap length (first_and_rest xs x e)

-- so is a resource
resource_less : (ms : List Message) → is_resource (slice_get ms 0) ≡ true → length ms ≡ suc (length (drop 1 ms))
resource_less ms e = found (slice_get ms 0) refl
  where
    found : (o : Option Message) → slice_get ms 0 ≡ o → length ms ≡ suc (length (drop 1 ms))
    found (Some m) at = one_less ms m at
    found _ at = absurd (let none : is_resource (slice_get ms 0) ≡ false = rw at refl in cc)

take_lessens : (s : Counts) (o : Outcome) (t : Counts) → TakeRow s o t → is_work o ≡ true → work_left t < work_left s
take_lessens s outcome.TookExport t row works =
    let less = one_less s.control.messages message.Export row.1 in rw (row.2, row.0) (omega (arith, less))
take_lessens s (outcome.TookFlush p) t row works =
    let less = one_less s.control.messages (message.Flush p) row.1 in rw (row.2, row.0) (omega (arith, less))
take_lessens s (outcome.TookShutdown p) t row works =
    let less = one_less s.control.messages (message.Shutdown p) row.1 in rw (row.2, row.0) (omega (arith, less))
take_lessens s outcome.TookResource t row works =
    let less = resource_less s.control.messages row.1 in rw (row.2, row.0) (omega (arith, less))
take_lessens s outcome.Nothing t row works = absurd (cc)
take_lessens s outcome.NotEnabled t row works = absurd (cc)
take_lessens s _ t row works = absurd row

tick_lessens : (s : Counts) (o : Outcome) (t : Counts) → TickRow s o t → is_work o ≡ true → work_left t < work_left s
tick_lessens s outcome.Ticked t row works = absurd (cc)
tick_lessens s outcome.NotEnabled t row works = absurd (cc)
tick_lessens s _ t row works = absurd row

clear_lessens : (s : Counts) (o : Outcome) (t : Counts) → ClearRow s o t → is_work o ≡ true →
    work_left t < work_left s
clear_lessens s outcome.Cleared t row works = rw (row.1, row.0) (omega arith)
clear_lessens s outcome.NotEnabled t row works = absurd (cc)
clear_lessens s _ t row works = absurd row

-- a state of these messages and these spans, whose worker has at most so much to do
work_by : (s t : Counts) (most : ℕ) → hand_work t.control.worker t.hand + worker_work t.control.worker ≤ most →
    6 * length t.control.messages + 4 * t.waiting + most < work_left s → work_left t < work_left s
work_by s t most within less = omega (arith, within, less)

load_lessens : (s : Counts) (o : Outcome) (t : Counts) → LoadRow s o t → is_work o ≡ true → work_left t < work_left s
load_lessens s (outcome.Loaded n) t row works = work_by s t (3 * s.hand + 3)
    (rw row.3 (within (n == 0) s.hand)) (rw (row.3, row.1) (omega arith))
  where
    within : (b : Bool) (hand : ℕ) →
        hand_work (if b then worker.Finishing else worker.Pulling) hand
        + worker_work (if b then worker.Finishing else worker.Pulling) ≤ 3 * hand + 3
    within true hand = omega arith
    within false hand = omega arith
load_lessens s outcome.NotEnabled t row works = absurd (cc)
load_lessens s _ t row works = absurd row

pull_lessens : (s : Counts) (o : Outcome) (t : Counts) → PullRow s o t → is_work o ≡ true → work_left t < work_left s
pull_lessens s outcome.Empty t row works = elim (eqb_tells s.hand 0) [
  | inl none ↦
      work_by s t (3 * s.hand + 2) (rw (row.2, none.0) (omega arith)) (rw (row.2, row.0) (omega arith))
  | inr some ↦
      work_by s t 5 (rw (row.2, some.0) (omega arith)) (rw (row.2, row.0) (omega (arith, some.1)))
]
pull_lessens s outcome.NoMemory t row works = rw (row.3, row.0) (omega arith)
pull_lessens s outcome.Pulled t row works =
    let to = ap (λ c. c.control.worker) row.2 in
    let hand : t.hand ≡ s.hand + 1 = ap (λ c. c.hand) row.2 in
    let messages : t.control.messages ≡ s.control.messages = ap (λ c. c.control.messages) row.2 in
    let one = row.1 in
    work_by s t (3 * s.hand + 6) (rw (to, hand) (within (nat_lt (s.hand + 1) (limit_of s.control)) s.hand))
    (rw (messages, row.0) (omega (arith, one)))
  where
    within : (b : Bool) (hand : ℕ) →
        hand_work (if b then worker.Pulling else worker.Handing) (hand + 1)
        + worker_work (if b then worker.Pulling else worker.Handing) ≤ 3 * hand + 6
    within true hand = omega arith
    within false hand = omega arith
pull_lessens s outcome.NotEnabled t row works = absurd (cc)
pull_lessens s _ t row works = absurd row

hand_over_lessens : (s : Counts) (o : Outcome) (t : Counts) → HandOverRow s o t → is_work o ≡ true →
    work_left t < work_left s
hand_over_lessens s (outcome.HandedOver k e) t row works =
    let to : t.control.worker ≡ worker.Subtracting k = ap (λ c. c.control.worker) row.3 in
    let hand : t.hand ≡ 0 = ap (λ c. c.hand) row.3 in
    let waiting : t.waiting ≡ s.waiting = ap (λ c. c.waiting) row.3 in
    let messages : t.control.messages ≡ s.control.messages = ap (λ c. c.control.messages) row.3 in
    rw (to, hand, waiting, messages, row.0) (omega arith)
hand_over_lessens s outcome.NotEnabled t row works = absurd (cc)
hand_over_lessens s _ t row works = absurd row

subtract_lessens : (s : Counts) (o : Outcome) (t : Counts) → SubtractRow s o t → is_work o ≡ true →
    work_left t < work_left s
subtract_lessens s outcome.Subtracted t row works = work_by s t (3 * s.hand + 3)
    (rw row.2 (within (nat_lt (s.control.done + row.0) s.control.target) s.hand)) (rw (row.2, row.1) (omega arith))
  where
    within : (b : Bool) (hand : ℕ) →
        hand_work (if b then worker.Pulling else worker.Finishing) hand
        + worker_work (if b then worker.Pulling else worker.Finishing) ≤ 3 * hand + 3
    within true hand = omega arith
    within false hand = omega arith
subtract_lessens s outcome.NotEnabled t row works = absurd (cc)
subtract_lessens s _ t row works = absurd row

finished_lessens : (y : Why) (s : Counts) (e : Option OTelSdkError) (t : Counts) →
    s.control.worker ≡ worker.Finishing → FinishRowFor y s e t → work_left t < work_left s
finished_lessens why.Asked s e t at row = rw (row.1, at) (omega arith)
finished_lessens why.Timer s e t at row = rw (row.1, at) (omega arith)
finished_lessens (why.Flush p) s e t at row = rw (row.1, at) (omega arith)
finished_lessens (why.Shutdown p) s e t at row = shut s.control.refused row.1
  where
    shut : (b : Bool) → t ≡ (if b
        then put_slot (end_of_drain s worker.Ready) p (slot.Answered (Err OutOfMemory))
        else end_of_drain s (worker.Closing p)) → work_left t < work_left s
    shut true eq = rw (eq, at) (omega arith)
    shut false eq = rw (eq, at) (omega arith)

finish_lessens : (s : Counts) (o : Outcome) (t : Counts) → FinishRow s o t → is_work o ≡ true →
    work_left t < work_left s
finish_lessens s (outcome.Finished e) t row works = finished_lessens s.control.why s e t row.0 row.1
finish_lessens s outcome.NotEnabled t row works = absurd (cc)
finish_lessens s _ t row works = absurd row

-- a worker that closes has one step left
closing_work : (w : Worker) (hand : ℕ) → is_closing w ≡ true → hand_work w hand + worker_work w ≡ 3 * hand + 1
closing_work (worker.Closing p) hand is = refl
closing_work worker.Ready hand is = cc
closing_work worker.Clearing hand is = cc
closing_work (worker.Loading y) hand is = cc
closing_work worker.Pulling hand is = cc
closing_work worker.Handing hand is = cc
closing_work (worker.Subtracting k) hand is = cc
closing_work worker.Finishing hand is = cc
closing_work worker.Gone hand is = cc

close_lessens : (s : Counts) (o : Outcome) (t : Counts) → CloseRow s o t → is_work o ≡ true → work_left t < work_left s
close_lessens s (outcome.ShutDown n) t row works =
    let has = closing_work s.control.worker s.hand row.0 in
    let to : t.control.worker ≡ worker.Gone = ap (λ c. c.control.worker) row.3 in
    let none : length t.control.messages ≡ 0 = ap (λ c. length c.control.messages) row.3 in
    let hand : t.hand ≡ s.hand = ap (λ c. c.hand) row.3 in
    let waiting : t.waiting ≡ s.waiting = ap (λ c. c.waiting) row.3 in
    work_by s t (3 * s.hand) (rw (to, hand) (omega arith)) (omega (arith, has, none, waiting))
close_lessens s outcome.NotEnabled t row works = absurd (cc)
close_lessens s _ t row works = absurd row

-- each step of the worker that finds something to do lessens what is left
pub permitted-lessens : (s t : Counts) (x : Step) (o : Outcome) → IsPermitted s x o t → is_workers x ≡ true →
    is_work o ≡ true → work_left t < work_left s
permitted-lessens s t step.Take o row own works = take_lessens s o t row works
permitted-lessens s t step.Tick o row own works = tick_lessens s o t row works
permitted-lessens s t step.Clear o row own works = clear_lessens s o t row works
permitted-lessens s t step.Load o row own works = load_lessens s o t row works
permitted-lessens s t step.Pull o row own works = pull_lessens s o t row works
permitted-lessens s t step.HandOver o row own works = hand_over_lessens s o t row works
permitted-lessens s t step.Subtract o row own works = subtract_lessens s o t row works
permitted-lessens s t step.Finish o row own works = finish_lessens s o t row works
permitted-lessens s t step.Close o row own works = close_lessens s o t row works
permitted-lessens s t _ o row own works = absurd (cc)

-- one message more
one_more_message : (ms : List Message) (m : Message) → length (ms ++ m ∷ []) ≡ length ms + 1
one_more_message ms m = length-append ms (m ∷ [])

offer_adds : (s : Counts) (p : ℕ) (span : PlainSpanData) (o : Outcome) (t : Counts) → OfferRow s p span o t →
    work_left t ≤ work_left s + adds_work o
offer_adds s p span outcome.Skipped t row = rw row.2 (omega arith)
offer_adds s p span (outcome.Counted n) t row = rw row.3 (omega arith)
offer_adds s p span outcome.NotEnabled t row = rw row.1 (omega arith)
offer_adds s p span _ t row = absurd row

send_adds : (s : Counts) (p : ℕ) (o : Outcome) (t : Counts) → SendRow s p o t →
    work_left t ≤ work_left s + adds_work o
send_adds s p outcome.Accepted t row = rw row.3 (omega arith)
send_adds s p outcome.Full t row = rw row.3 (omega arith)
send_adds s p outcome.Closed t row = rw row.2 (omega arith)
send_adds s p outcome.NotEnabled t row = rw row.1 (omega arith)
send_adds s p _ t row = absurd row

undo_adds : (s : Counts) (p : ℕ) (o : Outcome) (t : Counts) → UndoRow s p o t →
    work_left t ≤ work_left s + adds_work o
undo_adds s p outcome.Undone t row = rw row.1 (omega arith)
undo_adds s p outcome.NotEnabled t row = rw row.1 (omega arith)
undo_adds s p _ t row = absurd row

ask_adds : (s : Counts) (p : ℕ) (o : Outcome) (t : Counts) → AskRow s p o t →
    work_left t ≤ work_left s + adds_work o
ask_adds s p outcome.AlreadyAsked t row = rw row.2 (omega arith)
ask_adds s p outcome.MayPost t row = rw row.2 (omega arith)
ask_adds s p outcome.NotEnabled t row = rw row.1 (omega arith)
ask_adds s p _ t row = absurd row

post_adds : (s : Counts) (p : ℕ) (o : Outcome) (t : Counts) → PostRow s p o t →
    work_left t ≤ work_left s + adds_work o
post_adds s p outcome.Closed t row = rw row.2 (omega arith)
post_adds s p outcome.Full t row = rw row.3 (omega arith)
post_adds s p outcome.Posted t row = let more = one_more_message s.control.messages message.Export in rw row.3 (omega (arith, more))
post_adds s p outcome.NotEnabled t row = rw row.1 (omega arith)
post_adds s p _ t row = absurd row

reset_adds : (s : Counts) (p : ℕ) (o : Outcome) (t : Counts) → ResetRow s p o t →
    work_left t ≤ work_left s + adds_work o
reset_adds s p outcome.ResetDone t row = rw row.1 (omega arith)
reset_adds s p outcome.NotEnabled t row = rw row.1 (omega arith)
reset_adds s p _ t row = absurd row

request_adds : (s : Counts) (r : Request) (p : ℕ) (o : Outcome) (t : Counts) → RequestRow s r p o t →
    work_left t ≤ work_left s + adds_work o
request_adds s r p outcome.Closed t row = rw row.2 (omega arith)
request_adds s r p outcome.Full t row = rw row.3 (omega arith)
request_adds s r p outcome.Requested t row = let more = one_more_message s.control.messages (message_of r p) in rw row.3 (omega (arith, more))
request_adds s r p outcome.NotEnabled t row = rw row.1 (omega arith)
request_adds s r p _ t row = absurd row

collect_adds : (s : Counts) (p : ℕ) (o : Outcome) (t : Counts) → CollectRow s p o t →
    work_left t ≤ work_left s + adds_work o
collect_adds s p (outcome.Collected answer) t row = rw row.1 (omega arith)
collect_adds s p outcome.NotEnabled t row = rw row.1 (omega arith)
collect_adds s p _ t row = absurd row

post_resource_adds : (s : Counts) (resource : PlainResource) (o : Outcome) (t : Counts) → ResourceRow s resource o t →
    work_left t ≤ work_left s + adds_work o
post_resource_adds s resource outcome.Closed t row = rw row.1 (omega arith)
post_resource_adds s resource outcome.Full t row = rw row.2 (omega arith)
post_resource_adds s resource outcome.Posted t row = let more = one_more_message s.control.messages (message.Resource resource) in rw row.2 (omega (arith, more))
post_resource_adds s resource _ t row = absurd row

-- what a producer's step adds at most
permitted-adds : (s : Counts) (x : Step) (o : Outcome) (t : Counts) → IsPermitted s x o t → is_workers x ≡ false →
    work_left t ≤ work_left s + adds_work o
permitted-adds s (step.Offer p span) o t row others = offer_adds s p span o t row
permitted-adds s (step.Send p) o t row others = send_adds s p o t row
permitted-adds s (step.Undo p) o t row others = undo_adds s p o t row
permitted-adds s (step.Ask p) o t row others = ask_adds s p o t row
permitted-adds s (step.Post p) o t row others = post_adds s p o t row
permitted-adds s (step.Reset p) o t row others = reset_adds s p o t row
permitted-adds s (step.RequestFlush p) o t row others = request_adds s request.Flush p o t row
permitted-adds s (step.RequestShutdown p) o t row others = request_adds s request.Shutdown p o t row
permitted-adds s (step.Collect p) o t row others = collect_adds s p o t row
permitted-adds s (step.PostResource resource) o t row others = post_resource_adds s resource o t row
permitted-adds s _ o t row others = absurd (cc)

-- only a take finds nothing, and only the timer ticks
nothing-rests : (s : Counts) (x : Step) (t : Counts) → IsPermitted s x outcome.Nothing t → t ≡ s
nothing-rests s step.Take t row = row.2
nothing-rests s _ t row = absurd row

ticked-adds : (s : Counts) (x : Step) (t : Counts) → IsPermitted s x outcome.Ticked t →
    work_left t ≤ work_left s + 4
ticked-adds s step.Tick t row = rw (row.1, row.0) (omega arith)
ticked-adds s _ t row = absurd row

-- what another step of the worker adds at most
idle-adds : (s : Counts) (x : Step) (o : Outcome) (t : Counts) → IsPermitted s x o t → is_work o ≡ false →
    work_left t ≤ work_left s + adds_work o
idle-adds s x outcome.NotEnabled t row idle = rw (permitted-rests s x t row) (omega arith)
idle-adds s x outcome.Nothing t row idle = rw (nothing-rests s x t row) (omega arith)
idle-adds s x outcome.Ticked t row idle = ticked-adds s x t row
idle-adds s x _ t row idle = absurd (cc)

-- one step
step-works : (s : Counts) (x : Step) (o : Outcome) (t : Counts) → IsPermitted s x o t →
    (if is_workers x && is_work o then 1 else 0) + work_left t ≤ work_left s + adds_work o
step-works s x o t row = split (is_workers x) (is_work o) refl refl
  where
    split : (b c : Bool) → is_workers x ≡ b → is_work o ≡ c →
        (if b && c then 1 else 0) + work_left t ≤ work_left s + adds_work o
    split true true own works = let less = permitted-lessens s t x o row own works in omega (arith, less)
    split true false own works = let most = idle-adds s x o t row works in omega (arith, most)
    split false c own works = let most = permitted-adds s x o t row own in omega (arith, most)

-- a run
pub run-works : {E : Type 0} (calls : Ghosts E) (s : Machine E) (xs : List Step) (os : List Outcome) (t : Machine E) →
    Run calls s xs os t → work_steps xs os + work_left (counts t) ≤ work_left (counts s) + work_added os
run-works calls s [] [] t run = rw run (omega arith)
run-works calls s (x ∷ xs) (o ∷ os) t run =
    let first = step-works (counts s) x o (counts run.0) run.1.permitted in
    let rest = run-works calls run.0 xs os t run.2 in
    omega (arith, first, rest)
run-works calls s [] (o ∷ os) t run = absurd run
run-works calls s (x ∷ xs) [] t run = absurd run
