-- What becomes of requests, and that the worker goes on until it is gone.
use Rattle.std.proofs.Common.{◌≡◌, ◌≢◌, ◌⊎◌, inl, inr, ◌∙◌, ap, sym, refl, zero, suc, ℕ, ◌<◌, Bool, true, false, length, Option, Some, None, Ok, Err, Result, sum_by, slice_get, slice_set, if◌then◌else◌, arith}
use Rattle.std.proofs.lemmas.Bool.Decides.{eqb_tells}
use Rattle.std.proofs.lemmas.Option.{slice_get_within}
use Rattle.circular_buffer.proofs.Places.{slice_get-set_same, slice_get-set_other}
use Rattle.otel_resource.specs.Resource.{PlainResource}
use Rattle.otel_export.specs.declared.error.OTelSdkError.{OTelSdkError}
use Rattle.otel_export.specs.declared.error.OTelSdkError.TheVariants.{OutOfMemory}
use Rattle.otel_export.specs.PlainSpanData.{PlainSpanData}
use Rattle.otel_batch.specs.Slots.{is_holding, is_answered, slot_waits}
use Rattle.otel_batch.specs.Messages.{message_names}
use Rattle.otel_batch.specs.Workers.{closing_of, is_closing, is_gone, worker_names, is_ready, is_clearing, is_loading, is_pulling, is_handing, is_subtracting, is_finishing}
use Rattle.otel_batch.specs.MachineState.{Counts, put_slot, slot_at}
use Rattle.otel_batch.specs.ProducerSteps.{OfferRow, SendRow, UndoRow, AskRow, PostRow, ResetRow}
use Rattle.otel_batch.specs.RequestSteps.{RequestRow, CollectRow, ResourceRow}
use Rattle.otel_batch.specs.WorkerSteps.{TakeRow, TickRow, ClearRow, LoadRow, PullRow, HandOverRow, SubtractRow}
use Rattle.otel_batch.specs.DrainEnds.{FinishRow, FinishRowFor, CloseRow, IsDropped, SaysDropped, end_of_drain}
use Rattle.otel_batch.specs.PermittedStep.{IsPermitted}
use Rattle.otel_batch.specs.SoundMachine.{IsSound}
use Rattle.otel_batch.specs.KeptRequests.{KeepsRequests}
use Rattle.otel_batch.specs.KnownRequests.{requests_of}
use Rattle.otel_batch.specs.GoingOn.{GoesOn, is_enabled, next_step}
use Rattle.otel_batch.specs.declared.machine.state.Slot.{Slot}
use Rattle.otel_batch.specs.declared.machine.state.Slot.TheVariants as slot
use Rattle.otel_batch.specs.declared.machine.state.Request.{Request}
use Rattle.otel_batch.specs.declared.machine.state.Request.TheVariants as request
use Rattle.otel_batch.specs.declared.machine.state.Worker.{Worker}
use Rattle.otel_batch.specs.declared.machine.state.Worker.TheVariants as worker
use Rattle.otel_batch.specs.declared.machine.state.Why.{Why}
use Rattle.otel_batch.specs.declared.machine.state.Why.TheVariants as why
use Rattle.otel_batch.specs.declared.machine.step.Outcome.{Outcome}
use Rattle.otel_batch.specs.declared.machine.step.Outcome.TheVariants as outcome
use Rattle.otel_batch.specs.declared.machine.step.Step.{Step}
use Rattle.otel_batch.specs.declared.machine.step.Step.TheVariants as step
use Rattle.otel_batch.proofs.SlotSums.{one_flush, one_shutdown}
use Rattle.otel_batch.proofs.TableFacts.{slots_of}

-- how many answers a producer waits for or has
abbrev owed : Option Slot → ℕ
owed (Some (slot.Waiting r)) = 1
owed (Some (slot.Answered answer)) = 1
owed _ = 0

-- the slots are the same
same_keeps : (s : Counts) (x : Step) (o : Outcome) (t : Counts) → t.control.slots ≡ s.control.slots →
    KeepsRequests s x o t
same_keeps s x o t e = record { each = λ p r waits. inl (rw e waits); answered = λ p answer has. inl (rw e has) }

-- one slot changed, of one who neither waited nor had an answer
set_keeps : (s : Counts) (x : Step) (o : Outcome) (t : Counts) (q : ℕ) (new : Slot) →
    t.control.slots ≡ slice_set s.control.slots q new → owed (slot_at s q) ≡ 0 → KeepsRequests s x o t
set_keeps s x o t q new e free = record {
  each = λ p r waits. inl (stays p (slot.Waiting r) waits (ap owed waits));
  answered = λ p answer has. inl (stays p (slot.Answered answer) has (ap owed has));
}
  where
    stays : (p : ℕ) (old : Slot) → slot_at s p ≡ Some old → owed (slot_at s p) ≡ 1 → slot_at t p ≡ Some old
    stays p old at one = elim (eqb_tells p q) [
      | inl same ↦ absurd (let none : owed (slot_at s p) ≡ 0 = rw same.1 free in omega (arith, one, none))
      | inr other ↦ rw e (slice_get-set_other s.control.slots q p new other.1 ∙ at)
    ]

holding_owed : (o : Option Slot) → is_holding o ≡ true → owed o ≡ 0
holding_owed None e = refl
holding_owed (Some slot.Idle) e = refl
holding_owed (Some (slot.Holding span n)) e = refl
holding_owed (Some slot.Refused) e = refl
holding_owed (Some slot.Asking) e = refl
holding_owed (Some slot.Posting) e = refl
holding_owed (Some slot.Resetting) e = refl
holding_owed (Some (slot.Waiting r)) e = cc
holding_owed (Some (slot.Answered r)) e = cc

-- who has an answer has no request in the control queue or with the worker
pub answered-left : (p : ℕ) (answer : Result (Unit {0}) OTelSdkError) (s : Counts) → IsSound s →
    slot_at s p ≡ Some (slot.Answered answer) → requests_of p s ≡ 0
answered-left p answer s sound has = sound.awaited.each p ∙ ap slot_waits has

-- the answer of another one, who has no part in the step, stays
answer_stays : (s t : Counts) (q p : ℕ) (new : Slot) (answer : Result (Unit {0}) OTelSdkError) → IsSound s →
    t.control.slots ≡ slice_set s.control.slots q new → worker_names q s.control.why s.control.worker ≡ 1 →
    slot_at s p ≡ Some (slot.Answered answer) → slot_at t p ≡ Some (slot.Answered answer)
answer_stays s t q p new answer sound e own has = elim (eqb_tells p q) [
  | inl same ↦ absurd (
      let none : requests_of q s ≡ 0 = rw same.1 at (answered-left p answer s sound has) in
      omega (arith, own, none))
  | inr other ↦ rw e (slice_get-set_other s.control.slots q p new other.1 ∙ has)
]

offer_keeps : (s : Counts) (p : ℕ) (span : PlainSpanData) (o : Outcome) (t : Counts) → OfferRow s p span o t → KeepsRequests s (step.Offer p span) o t
offer_keeps s p span outcome.Skipped t row = same_keeps s _ _ t (slots_of _ _ row.2)
offer_keeps s p span (outcome.Counted n) t row = set_keeps s _ _ t p _ (slots_of _ _ row.3) (ap owed row.0)
offer_keeps s p span outcome.NotEnabled t row = same_keeps s _ _ t (slots_of _ _ row.1)
offer_keeps s p span _ t row = absurd row

send_keeps : (s : Counts) (p : ℕ) (o : Outcome) (t : Counts) → SendRow s p o t → KeepsRequests s (step.Send p) o t
send_keeps s p outcome.Accepted t row = set_keeps s _ _ t p _ (slots_of _ _ row.3) (holding_owed _ row.0)
send_keeps s p outcome.Full t row = set_keeps s _ _ t p _ (slots_of _ _ row.3) (holding_owed _ row.0)
send_keeps s p outcome.Closed t row = set_keeps s _ _ t p _ (slots_of _ _ row.2) (holding_owed _ row.0)
send_keeps s p outcome.NotEnabled t row = same_keeps s _ _ t (slots_of _ _ row.1)
send_keeps s p _ t row = absurd row

undo_keeps : (s : Counts) (p : ℕ) (o : Outcome) (t : Counts) → UndoRow s p o t → KeepsRequests s (step.Undo p) o t
undo_keeps s p outcome.Undone t row = set_keeps s _ _ t p _ (slots_of _ _ row.1) (ap owed row.0)
undo_keeps s p outcome.NotEnabled t row = same_keeps s _ _ t (slots_of _ _ row.1)
undo_keeps s p _ t row = absurd row

ask_keeps : (s : Counts) (p : ℕ) (o : Outcome) (t : Counts) → AskRow s p o t → KeepsRequests s (step.Ask p) o t
ask_keeps s p outcome.AlreadyAsked t row = set_keeps s _ _ t p _ (slots_of _ _ row.2) (ap owed row.0)
ask_keeps s p outcome.MayPost t row = set_keeps s _ _ t p _ (slots_of _ _ row.2) (ap owed row.0)
ask_keeps s p outcome.NotEnabled t row = same_keeps s _ _ t (slots_of _ _ row.1)
ask_keeps s p _ t row = absurd row

post_keeps : (s : Counts) (p : ℕ) (o : Outcome) (t : Counts) → PostRow s p o t → KeepsRequests s (step.Post p) o t
post_keeps s p outcome.Closed t row = set_keeps s _ _ t p _ (slots_of _ _ row.2) (ap owed row.0)
post_keeps s p outcome.Full t row = set_keeps s _ _ t p _ (slots_of _ _ row.3) (ap owed row.0)
post_keeps s p outcome.Posted t row = set_keeps s _ _ t p _ (slots_of _ _ row.3) (ap owed row.0)
post_keeps s p outcome.NotEnabled t row = same_keeps s _ _ t (slots_of _ _ row.1)
post_keeps s p _ t row = absurd row

reset_keeps : (s : Counts) (p : ℕ) (o : Outcome) (t : Counts) → ResetRow s p o t → KeepsRequests s (step.Reset p) o t
reset_keeps s p outcome.ResetDone t row = set_keeps s _ _ t p _ (slots_of _ _ row.1) (ap owed row.0)
reset_keeps s p outcome.NotEnabled t row = same_keeps s _ _ t (slots_of _ _ row.1)
reset_keeps s p _ t row = absurd row

request_keeps : (s : Counts) (x : Step) (r : Request) (p : ℕ) (o : Outcome) (t : Counts) → RequestRow s r p o t → KeepsRequests s x o t
request_keeps s x r p outcome.Closed t row = same_keeps s _ _ t (slots_of _ _ row.2)
request_keeps s x r p outcome.Full t row = same_keeps s _ _ t (slots_of _ _ row.3)
request_keeps s x r p outcome.Requested t row = set_keeps s _ _ t p _ (slots_of _ _ row.3) (ap owed row.0)
request_keeps s x r p outcome.NotEnabled t row = same_keeps s _ _ t (slots_of _ _ row.1)
request_keeps s x r p _ t row = absurd row

collect_keeps : (s : Counts) (p : ℕ) (o : Outcome) (t : Counts) → CollectRow s p o t → KeepsRequests s (step.Collect p) o t
collect_keeps s p (outcome.Collected given) t row = record {
  each = λ q r waits. inl (stays q (slot.Waiting r) waits (λ same.
      absurd (let both : slot.Waiting r ≡ slot.Answered given = one q (slot.Waiting r) waits same in cc)));
  answered = λ q answer has. elim (eqb_tells q p) [
    | inl same ↦ inr (
      sym same.1,
      let both : slot.Answered answer ≡ slot.Answered given = one q (slot.Answered answer) has same.1 in cc,
    )
    | inr other ↦ inl (stays q (slot.Answered answer) has other.1)
  ];
}
  where
    one : (q : ℕ) (old : Slot) → slot_at s q ≡ Some old → q ≡ p → old ≡ slot.Answered given
    one q old at same = let there : slot_at s q ≡ Some (slot.Answered given) = rw same row.0 in cc

    stays : (q : ℕ) (old : Slot) → slot_at s q ≡ Some old → q ≢ p → slot_at t q ≡ Some old
    stays q old at other = rw (slots_of _ _ row.1) (slice_get-set_other s.control.slots p q slot.Idle other ∙ at)
collect_keeps s p outcome.NotEnabled t row = same_keeps s _ _ t (slots_of _ _ row.1)
collect_keeps s p _ t row = absurd row

post_resource_keeps : (s : Counts) (resource : PlainResource) (o : Outcome) (t : Counts) → ResourceRow s resource o t → KeepsRequests s (step.PostResource resource) o t
post_resource_keeps s resource outcome.Closed t row = same_keeps s _ _ t (slots_of _ _ row.1)
post_resource_keeps s resource outcome.Full t row = same_keeps s _ _ t (slots_of _ _ row.2)
post_resource_keeps s resource outcome.Posted t row = same_keeps s _ _ t (slots_of _ _ row.2)
post_resource_keeps s resource _ t row = absurd row

take_keeps : (s : Counts) (o : Outcome) (t : Counts) → TakeRow s o t → KeepsRequests s step.Take o t
take_keeps s outcome.Nothing t row = same_keeps s _ _ t (slots_of _ _ row.2)
take_keeps s outcome.TookExport t row = same_keeps s _ _ t (slots_of _ _ row.2)
take_keeps s (outcome.TookFlush p) t row = same_keeps s _ _ t (slots_of _ _ row.2)
take_keeps s (outcome.TookShutdown p) t row = same_keeps s _ _ t (slots_of _ _ row.2)
take_keeps s outcome.TookResource t row = same_keeps s _ _ t (slots_of _ _ row.2)
take_keeps s outcome.NotEnabled t row = same_keeps s _ _ t (slots_of _ _ row.1)
take_keeps s _ t row = absurd row

tick_keeps : (s : Counts) (o : Outcome) (t : Counts) → TickRow s o t → KeepsRequests s step.Tick o t
tick_keeps s outcome.Ticked t row = same_keeps s _ _ t (slots_of _ _ row.1)
tick_keeps s outcome.NotEnabled t row = same_keeps s _ _ t (slots_of _ _ row.1)
tick_keeps s _ t row = absurd row

clear_keeps : (s : Counts) (o : Outcome) (t : Counts) → ClearRow s o t → KeepsRequests s step.Clear o t
clear_keeps s outcome.Cleared t row = same_keeps s _ _ t (slots_of _ _ row.1)
clear_keeps s outcome.NotEnabled t row = same_keeps s _ _ t (slots_of _ _ row.1)
clear_keeps s _ t row = absurd row

load_keeps : (s : Counts) (o : Outcome) (t : Counts) → LoadRow s o t → KeepsRequests s step.Load o t
load_keeps s (outcome.Loaded n) t row = same_keeps s _ _ t (slots_of _ _ row.3)
load_keeps s outcome.NotEnabled t row = same_keeps s _ _ t (slots_of _ _ row.1)
load_keeps s _ t row = absurd row

pull_keeps : (s : Counts) (o : Outcome) (t : Counts) → PullRow s o t → KeepsRequests s step.Pull o t
pull_keeps s outcome.Empty t row = same_keeps s _ _ t (slots_of _ _ row.2)
pull_keeps s outcome.NoMemory t row = same_keeps s _ _ t (slots_of _ _ row.3)
pull_keeps s outcome.Pulled t row = same_keeps s _ _ t (slots_of _ _ row.2)
pull_keeps s outcome.NotEnabled t row = same_keeps s _ _ t (slots_of _ _ row.1)
pull_keeps s _ t row = absurd row

hand_over_keeps : (s : Counts) (o : Outcome) (t : Counts) → HandOverRow s o t → KeepsRequests s step.HandOver o t
hand_over_keeps s (outcome.HandedOver k e) t row = same_keeps s _ _ t (slots_of _ _ row.3)
hand_over_keeps s outcome.NotEnabled t row = same_keeps s _ _ t (slots_of _ _ row.1)
hand_over_keeps s _ t row = absurd row

subtract_keeps : (s : Counts) (o : Outcome) (t : Counts) → SubtractRow s o t → KeepsRequests s step.Subtract o t
subtract_keeps s outcome.Subtracted t row = same_keeps s _ _ t (slots_of _ _ row.2)
subtract_keeps s outcome.NotEnabled t row = same_keeps s _ _ t (slots_of _ _ row.1)
subtract_keeps s _ t row = absurd row

-- one who waits is answered by the finish of its own drain
answers_keeps : (s : Counts) (e : Option OTelSdkError) (t : Counts) (q : ℕ) (answer : _) →
    t.control.slots ≡ slice_set s.control.slots q (slot.Answered answer) →
    worker_names q s.control.why s.control.worker ≡ 1 → IsSound s → KeepsRequests s step.Finish (outcome.Finished e) t
answers_keeps s e t q answer eq own sound = record {
  each = λ p r waits. elim (eqb_tells p q) [
    | inl same ↦
        let lt : q < length s.control.slots =
        slice_get_within s.control.slots q (slot.Waiting r) (rw same.1 at waits) in
        let now : slot_at t p ≡ Some (slot.Answered answer) =
        rw (eq, same.1) (slice_get-set_same s.control.slots q (slot.Answered answer) lt) in
        inr (rw now refl, rw same.1 own)
    | inr other ↦ inl (rw eq (slice_get-set_other s.control.slots q p (slot.Answered answer) other.1 ∙ waits))
  ];
  answered = λ p old has. inl (answer_stays s t q p (slot.Answered answer) old sound eq own has);
}

finished_keeps : (y : Why) (s : Counts) (e : Option OTelSdkError) (t : Counts) → s.control.worker ≡ worker.Finishing →
    s.control.why ≡ y → FinishRowFor y s e t → IsSound s → KeepsRequests s step.Finish (outcome.Finished e) t
finished_keeps why.Asked s e t at is row sound = same_keeps s _ _ t (slots_of _ _ row.1)
finished_keeps why.Timer s e t at is row sound = same_keeps s _ _ t (slots_of _ _ row.1)
finished_keeps (why.Flush q) s e t at is row sound =
    answers_keeps s e t q _ (slots_of _ _ row.1) (rw (at, is) (one_flush q)) sound
finished_keeps (why.Shutdown q) s e t at is row sound = shut s.control.refused row.1
  where
    shut : (b : Bool) → t ≡ (if b
        then put_slot (end_of_drain s worker.Ready) q (slot.Answered (Err OutOfMemory))
        else end_of_drain s (worker.Closing q)) → KeepsRequests s step.Finish (outcome.Finished e) t
    shut true eq = answers_keeps s e t q (Err OutOfMemory) (slots_of _ _ eq) (rw (at, is) (one_shutdown q)) sound
    shut false eq = same_keeps s _ _ t (slots_of _ _ eq)

finish_keeps : (s : Counts) (o : Outcome) (t : Counts) → FinishRow s o t → IsSound s → KeepsRequests s step.Finish o t
finish_keeps s (outcome.Finished e) t row sound = finished_keeps s.control.why s e t row.0 refl row.1 sound
finish_keeps s outcome.NotEnabled t row sound = same_keeps s _ _ t (slots_of _ _ row.1)
finish_keeps s _ t row sound = absurd row

says_dropped-answered : (o : Option Slot) → SaysDropped o → is_answered o ≡ true
says_dropped-answered None says = absurd says
says_dropped-answered (Some slot.Idle) says = absurd says
says_dropped-answered (Some (slot.Holding span n)) says = absurd says
says_dropped-answered (Some slot.Refused) says = absurd says
says_dropped-answered (Some slot.Asking) says = absurd says
says_dropped-answered (Some slot.Posting) says = absurd says
says_dropped-answered (Some slot.Resetting) says = absurd says
says_dropped-answered (Some (slot.Waiting r)) says = absurd says
says_dropped-answered (Some (slot.Answered r)) says = refl

-- a slot is as it was, or its request was dropped
dropped_cases : (n : ℕ) (old new : Option Slot) → IsDropped n old new → (new ≡ old) ⊎ (0 < n) × SaysDropped new
dropped_cases zero old new d = inl d
dropped_cases (suc n) old new d = inr (omega arith, d)

closing_names : (p : ℕ) (y : Why) (w : Worker) → is_closing w ≡ true → closing_of w ≡ p → worker_names p y w ≡ 1
closing_names p y (worker.Closing q) is e = elim (eqb_tells q p) [ inl same ↦ rw same.0 | inr other ↦ absurd (other.1 e) ]
closing_names p y worker.Ready is e = cc
closing_names p y worker.Clearing is e = cc
closing_names p y (worker.Loading z) is e = cc
closing_names p y worker.Pulling is e = cc
closing_names p y worker.Handing is e = cc
closing_names p y (worker.Subtracting k) is e = cc
closing_names p y worker.Finishing is e = cc
closing_names p y worker.Gone is e = cc

close_keeps : (s : Counts) (o : Outcome) (t : Counts) → CloseRow s o t → IsSound s → KeepsRequests s step.Close o t
close_keeps s (outcome.ShutDown n) t row sound = record {
  each = λ p r waits.
      let q = closing_of s.control.worker in
      let cases = dropped_cases (sum_by (message_names p) s.control.messages)
      (slice_get (slice_set s.control.slots q (slot.Answered (Ok tt))) p) (slot_at t p) (row.1 p) in
      elim (eqb_tells p q) [
        | inl same ↦
            let own : worker_names p s.control.why s.control.worker ≡ 1 =
            closing_names p s.control.why s.control.worker row.0 (sym same.1) in
            let lt : q < length s.control.slots =
            slice_get_within s.control.slots q (slot.Waiting r) (rw same.1 at waits) in
            let set : slice_get (slice_set s.control.slots q (slot.Answered (Ok tt))) p ≡ Some (slot.Answered (Ok tt)) =
            rw same.1 (slice_get-set_same s.control.slots q (slot.Answered (Ok tt)) lt) in
            elim cases [
              | inl stays ↦ inr (ap is_answered (stays ∙ set), inl own)
              | inr dropped ↦ inr (says_dropped-answered (slot_at t p) dropped.1, inl own)
            ]
        | inr other ↦
            let set = slice_get-set_other s.control.slots q p (slot.Answered (Ok tt)) other.1 in
            elim cases [
              | inl stays ↦ inl (stays ∙ set ∙ waits)
              | inr dropped ↦ inr (says_dropped-answered (slot_at t p) dropped.1, inr dropped.0)
            ]
      ];
  answered = λ p answer has.
      let q = closing_of s.control.worker in
      let none : requests_of p s ≡ 0 = answered-left p answer s sound has in
      elim (dropped_cases (sum_by (message_names p) s.control.messages)
      (slice_get (slice_set s.control.slots q (slot.Answered (Ok tt))) p) (slot_at t p) (row.1 p)) [
        | inl stays ↦ elim (eqb_tells p q) [
          | inl same ↦ absurd (
              let own : worker_names p s.control.why s.control.worker ≡ 1 =
              closing_names p s.control.why s.control.worker row.0 (sym same.1) in
              omega (arith, own, none))
          | inr other ↦
              inl (stays ∙ slice_get-set_other s.control.slots q p (slot.Answered (Ok tt)) other.1 ∙ has)
        ]
        | inr dropped ↦ absurd (omega (arith, dropped.0, none))
      ];
}
close_keeps s outcome.NotEnabled t row sound = same_keeps s _ _ t (slots_of _ _ row.1)
close_keeps s _ t row sound = absurd row

-- no step loses a request
pub permitted-keeps : (s : Counts) (x : Step) (o : Outcome) (t : Counts) → IsPermitted s x o t → IsSound s →
    KeepsRequests s x o t
permitted-keeps s (step.Offer p span) o t row sound = offer_keeps s p span o t row
permitted-keeps s (step.Send p) o t row sound = send_keeps s p o t row
permitted-keeps s (step.Undo p) o t row sound = undo_keeps s p o t row
permitted-keeps s (step.Ask p) o t row sound = ask_keeps s p o t row
permitted-keeps s (step.Post p) o t row sound = post_keeps s p o t row
permitted-keeps s (step.Reset p) o t row sound = reset_keeps s p o t row
permitted-keeps s (step.RequestFlush p) o t row sound = request_keeps s (step.RequestFlush p) request.Flush p o t row
permitted-keeps s (step.RequestShutdown p) o t row sound = request_keeps s (step.RequestShutdown p) request.Shutdown p o t row
permitted-keeps s (step.Collect p) o t row sound = collect_keeps s p o t row
permitted-keeps s (step.PostResource resource) o t row sound = post_resource_keeps s resource o t row
permitted-keeps s step.Take o t row sound = take_keeps s o t row
permitted-keeps s step.Tick o t row sound = tick_keeps s o t row
permitted-keeps s step.Clear o t row sound = clear_keeps s o t row
permitted-keeps s step.Load o t row sound = load_keeps s o t row
permitted-keeps s step.Pull o t row sound = pull_keeps s o t row
permitted-keeps s step.HandOver o t row sound = hand_over_keeps s o t row
permitted-keeps s step.Subtract o t row sound = subtract_keeps s o t row
permitted-keeps s step.Close o t row sound = close_keeps s o t row sound
permitted-keeps s step.Finish o t row sound = finish_keeps s o t row sound

enabled_if : (o : Outcome) → (o ≡ outcome.NotEnabled → ⊥) → is_enabled o ≡ true
enabled_if outcome.NotEnabled not = absurd (not refl)
enabled_if _ not = refl

-- the next step of a worker that is not gone is enabled
next_enabled : (s : Counts) (w : Worker) (o : Outcome) (t : Counts) → s.control.worker ≡ w → is_gone w ≡ false →
    IsPermitted s (next_step w) o t → is_enabled o ≡ true
next_enabled s worker.Ready o t at stays row = enabled_if o (λ e.
    let off : IsPermitted s step.Take outcome.NotEnabled t = rw e at row in
    let no : is_ready s.control.worker ≡ false = off.0 in let yes : is_ready s.control.worker ≡ true = rw at refl in cc)
next_enabled s worker.Clearing o t at stays row = enabled_if o (λ e.
    let off : IsPermitted s step.Clear outcome.NotEnabled t = rw e at row in
    let no : is_clearing s.control.worker ≡ false = off.0 in let yes : is_clearing s.control.worker ≡ true = rw at refl in cc)
next_enabled s (worker.Loading y) o t at stays row = enabled_if o (λ e.
    let off : IsPermitted s step.Load outcome.NotEnabled t = rw e at row in
    let no : is_loading s.control.worker ≡ false = off.0 in let yes : is_loading s.control.worker ≡ true = rw at refl in cc)
next_enabled s worker.Pulling o t at stays row = enabled_if o (λ e.
    let off : IsPermitted s step.Pull outcome.NotEnabled t = rw e at row in
    let no : is_pulling s.control.worker ≡ false = off.0 in let yes : is_pulling s.control.worker ≡ true = rw at refl in cc)
next_enabled s worker.Handing o t at stays row = enabled_if o (λ e.
    let off : IsPermitted s step.HandOver outcome.NotEnabled t = rw e at row in
    let no : is_handing s.control.worker ≡ false = off.0 in let yes : is_handing s.control.worker ≡ true = rw at refl in cc)
next_enabled s (worker.Subtracting k) o t at stays row = enabled_if o (λ e.
    let off : IsPermitted s step.Subtract outcome.NotEnabled t = rw e at row in
    let no : is_subtracting s.control.worker ≡ false = off.0 in
    let yes : is_subtracting s.control.worker ≡ true = rw at refl in cc)
next_enabled s worker.Finishing o t at stays row = enabled_if o (λ e.
    let off : IsPermitted s step.Finish outcome.NotEnabled t = rw e at row in
    let no : is_finishing s.control.worker ≡ false = off.0 in
    let yes : is_finishing s.control.worker ≡ true = rw at refl in cc)
next_enabled s (worker.Closing p) o t at stays row = enabled_if o (λ e.
    let off : IsPermitted s step.Close outcome.NotEnabled t = rw e at row in
    let no : is_closing s.control.worker ≡ false = off.0 in let yes : is_closing s.control.worker ≡ true = rw at refl in cc)
next_enabled s worker.Gone o t at stays row = cc

pub permitted-goes_on : (s : Counts) (x : Step) (o : Outcome) (t : Counts) → IsPermitted s x o t → GoesOn s x o
permitted-goes_on s x o t row e stays = next_enabled s s.control.worker o t refl stays (rw e at row)
