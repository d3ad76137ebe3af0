-- What the producers are said to hold along a run is what their slots hold.
use Rattle.std.proofs.Common.{◌≡◌, ◌≢◌, ◌∙◌, ap, sym, refl, inl, inr, zero, suc, ℕ, ◌<◌, ◌==◌, Bool, true, false, List, [], ◌∷◌, length, Option, Some, None, Ok, Err, sum_by, slice_get, slice_set, replicate, if◌then◌else◌}
use Rattle.std.proofs.Math.ListN.{length-set}
use Rattle.std.proofs.lemmas.Bool.Decides.{eqb_tells}
use Rattle.std.proofs.lemmas.Option.{slice_get_cases}
use Rattle.circular_buffer.proofs.Places.{slice_get-set_same, slice_get-set_other}
use Rattle.otel_resource.specs.Resource.{PlainResource}
use Rattle.otel_export.specs.declared.error.OTelSdkError.{OTelSdkError}
use Rattle.otel_export.specs.declared.error.OTelSdkError.TheVariants.{OutOfMemory}
use Rattle.otel_export.specs.PlainSpanData.{PlainSpanData}
use Rattle.otel_batch.specs.Slots.{span_held, is_holding}
use Rattle.otel_batch.specs.Messages.{message_names}
use Rattle.otel_batch.specs.Workers.{closing_of}
use Rattle.otel_batch.specs.MachineState.{Counts, put_slot}
use Rattle.otel_batch.specs.ProducerSteps.{OfferRow, SendRow, UndoRow, AskRow, PostRow, ResetRow, after_send}
use Rattle.otel_batch.specs.RequestSteps.{RequestRow, CollectRow, ResourceRow}
use Rattle.otel_batch.specs.WorkerSteps.{TakeRow, TickRow, ClearRow, LoadRow, PullRow, HandOverRow, SubtractRow}
use Rattle.otel_batch.specs.DrainEnds.{FinishRow, FinishRowFor, CloseRow, IsDropped, SaysDropped, end_of_drain}
use Rattle.otel_batch.specs.PermittedStep.{IsPermitted}
use Rattle.otel_batch.specs.MachineRun.{holds_after, holds_at, accepts}
use Rattle.otel_batch.specs.declared.machine.state.Slot.{Slot}
use Rattle.otel_batch.specs.declared.machine.state.Slot.TheVariants as slot
use Rattle.otel_batch.specs.declared.machine.state.Request.{Request}
use Rattle.otel_batch.specs.declared.machine.state.Request.TheVariants as request
use Rattle.otel_batch.specs.declared.machine.state.Worker.TheVariants as worker
use Rattle.otel_batch.specs.declared.machine.state.Why.{Why}
use Rattle.otel_batch.specs.declared.machine.state.Why.TheVariants as why
use Rattle.otel_batch.specs.declared.machine.step.Outcome.{Outcome}
use Rattle.otel_batch.specs.declared.machine.step.Outcome.TheVariants as outcome
use Rattle.otel_batch.specs.declared.machine.step.Step.{Step}
use Rattle.otel_batch.specs.declared.machine.step.Step.TheVariants as step
use Rattle.otel_batch.proofs.TableFacts.{slots_of}

-- what the producers are said to hold is what these slots hold
pub record AreHeldIn (holds : ℕ → List PlainSpanData) (slots : List Slot) : Type 0 where
  pub each : (p : ℕ) (span : PlainSpanData) → span_held (slice_get slots p) ≡ span ∷ [] → holds p ≡ span ∷ []

pub held_at_slots : (slots : List Slot) → AreHeldIn (holds_at slots) slots
held_at_slots slots = record { each = λ p span e. e }

idle_holds : (n p : ℕ) → span_held (slice_get (replicate n slot.Idle) p) ≡ []
idle_holds zero p = refl
idle_holds (suc n) zero = refl
idle_holds (suc n) (suc p) = idle_holds n p

-- where all are idle nothing is held
pub held_at_first : (n : ℕ) → AreHeldIn (λ p. []) (replicate n slot.Idle)
held_at_first n = record {
  each = λ p span e. absurd (let none : span_held (slice_get (replicate n slot.Idle) p) ≡ [] =
      idle_holds n p in cc);
}

same_slots : (h : ℕ → List PlainSpanData) (s t : Counts) → t ≡ s → AreHeldIn h s.control.slots → AreHeldIn h t.control.slots
same_slots h s t e a = rw e a

-- the slots are the same
same_list : (h : ℕ → List PlainSpanData) (slots slots' : List Slot) → slots' ≡ slots → AreHeldIn h slots → AreHeldIn h slots'
same_list h slots slots' e a = rw e a

-- one slot changed
set_slots : (h h' : ℕ → List PlainSpanData) (slots slots' : List Slot) (p : ℕ) (new : Slot) →
    slots' ≡ slice_set slots p new → ((q : ℕ) → q ≢ p → h' q ≡ h q) →
    ((span : PlainSpanData) → span_held (Some new) ≡ span ∷ [] → h' p ≡ span ∷ []) →
    AreHeldIn h slots → AreHeldIn h' slots'
set_slots h h' slots slots' p new e others own a = rw e (record {
  each = λ q span g. elim (eqb_tells q p) [
    | inl same ↦ elim (slice_get_cases (slice_set slots p new) p).1 [
      | inl found ↦
          let lt : p < length slots = rw length-set at found.1 in
          rw same.1 (own span (ap span_held (sym (slice_get-set_same slots p new lt)) ∙ rw same.1 at g))
      | inr past ↦ absurd (
          let none : span_held (slice_get (slice_set slots p new) p) ≡ [] = ap span_held past.1 in
          let some : span_held (slice_get (slice_set slots p new) p) ≡ span ∷ [] = rw same.1 at g in
          cc)
    ]
    | inr other ↦
        others q other.1 ∙ a.each q span (ap span_held (sym (slice_get-set_other slots p q new other.1)) ∙ g)
  ];
})

-- one slot changed to one that holds no span
frees : (h : ℕ → List PlainSpanData) (slots slots' : List Slot) (p : ℕ) (new : Slot) →
    slots' ≡ slice_set slots p new → span_held (Some new) ≡ [] → AreHeldIn h slots → AreHeldIn h slots'
frees h slots slots' p new e free a =
    set_slots h h slots slots' p new e (λ q n. refl)
    (λ span g. absurd (let f : span_held (Some new) ≡ [] = free in cc)) a

free-after : (batch_size n : ℕ) → span_held (Some (after_send batch_size n)) ≡ []
free-after batch_size n = either _
  where
    either : (b : Bool) → span_held (Some (if b then slot.Asking else slot.Idle)) ≡ []
    either true = refl
    either false = refl

offer_holds : (h : ℕ → List PlainSpanData) (s : Counts) (p : ℕ) (span : PlainSpanData) (o : Outcome) (t : Counts) →
    OfferRow s p span o t → AreHeldIn h s.control.slots →
    AreHeldIn (λ q. holds_after h (step.Offer p span) o q) t.control.slots
offer_holds h s p span outcome.Skipped t row a = same_slots h s t row.2 a
offer_holds h s p span (outcome.Counted n) t row a =
    set_slots h (λ q. if q == p then span ∷ [] else h q) s.control.slots t.control.slots p (slot.Holding span n)
    (slots_of _ _ row.3)
    (λ q n. elim (eqb_tells q p) [ inl same ↦ absurd (n same.1) | inr other ↦ rw other.0 ])
    (λ x e. elim (eqb_tells p p) [ inl same ↦ rw same.0 e | inr other ↦ absurd (other.1 refl) ]) a
offer_holds h s p span outcome.NotEnabled t row a = same_slots h s t row.1 a
offer_holds h s p span _ t row a = absurd row

-- a slot that says that its request was dropped held no span
says_dropped-held : (new : Option Slot) → SaysDropped new → span_held new ≡ []
says_dropped-held None says = absurd says
says_dropped-held (Some slot.Idle) says = absurd says
says_dropped-held (Some (slot.Holding span n)) says = absurd says
says_dropped-held (Some slot.Refused) says = absurd says
says_dropped-held (Some slot.Asking) says = absurd says
says_dropped-held (Some slot.Posting) says = absurd says
says_dropped-held (Some slot.Resetting) says = absurd says
says_dropped-held (Some (slot.Waiting r)) says = absurd says
says_dropped-held (Some (slot.Answered r)) says = refl

-- a slot after the dropping of requests holds what it held
dropped_held : (n : ℕ) (old new : Option Slot) (span : PlainSpanData) → IsDropped n old new → span_held new ≡ span ∷ [] →
    span_held old ≡ span ∷ []
dropped_held zero old new span d e = ap span_held (sym d) ∙ e
dropped_held (suc n) old new span d e = absurd (let none = says_dropped-held new d in cc)

finished_holds : (h : ℕ → List PlainSpanData) (y : Why) (s : Counts) (e : Option OTelSdkError) (t : Counts) →
    FinishRowFor y s e t → AreHeldIn h s.control.slots → AreHeldIn h t.control.slots
finished_holds h why.Asked s e t row a = same_list h _ _ (slots_of _ _ row.1) a
finished_holds h why.Timer s e t row a = same_list h _ _ (slots_of _ _ row.1) a
finished_holds h (why.Flush p) s e t row a = frees h _ _ p _ (slots_of _ _ row.1) refl a
finished_holds h (why.Shutdown p) s e t row a = shut s.control.refused row.1
  where
    shut : (b : Bool) → t ≡ (if b
        then put_slot (end_of_drain s worker.Ready) p (slot.Answered (Err OutOfMemory))
        else end_of_drain s (worker.Closing p)) → AreHeldIn h t.control.slots
    shut true eq = frees h s.control.slots t.control.slots p (slot.Answered (Err OutOfMemory)) (slots_of _ _ eq) refl a
    shut false eq = same_list h s.control.slots t.control.slots (slots_of _ _ eq) a

finish_holds : (h : ℕ → List PlainSpanData) (s : Counts) (o : Outcome) (t : Counts) → FinishRow s o t →
    AreHeldIn h s.control.slots → AreHeldIn h t.control.slots
finish_holds h s (outcome.Finished e) t row a = finished_holds h s.control.why s e t row.1 a
finish_holds h s outcome.NotEnabled t row a = same_slots h s t row.1 a
finish_holds h s _ t row a = absurd row

close_holds : (h : ℕ → List PlainSpanData) (s : Counts) (o : Outcome) (t : Counts) → CloseRow s o t →
    AreHeldIn h s.control.slots → AreHeldIn h t.control.slots
close_holds h s (outcome.ShutDown n) t row a =
    let p = closing_of s.control.worker in
    let before = frees h s.control.slots (slice_set s.control.slots p (slot.Answered (Ok tt))) p (slot.Answered (Ok tt))
    refl refl a in
    record {
      each = λ q span e. before.each q span
          (dropped_held (sum_by (message_names q) s.control.messages) _ _ span (row.1 q) e);
    }
close_holds h s outcome.NotEnabled t row a = same_slots h s t row.1 a
close_holds h s _ t row a = absurd row

send_holds : (h : ℕ → List PlainSpanData) (s : Counts) (p : ℕ) (o : Outcome) (t : Counts) → SendRow s p o t →
    AreHeldIn h s.control.slots → AreHeldIn h t.control.slots
send_holds h s p outcome.Accepted t row a = frees h _ _ p _ (slots_of _ _ row.3) (free-after _ _) a
send_holds h s p outcome.Full t row a = frees h _ _ p _ (slots_of _ _ row.3) refl a
send_holds h s p outcome.Closed t row a = frees h _ _ p _ (slots_of _ _ row.2) refl a
send_holds h s p outcome.NotEnabled t row a = same_list h _ _ (slots_of _ _ row.1) a
send_holds h s p _ t row a = absurd row

undo_holds : (h : ℕ → List PlainSpanData) (s : Counts) (p : ℕ) (o : Outcome) (t : Counts) → UndoRow s p o t →
    AreHeldIn h s.control.slots → AreHeldIn h t.control.slots
undo_holds h s p outcome.Undone t row a = frees h _ _ p _ (slots_of _ _ row.1) refl a
undo_holds h s p outcome.NotEnabled t row a = same_list h _ _ (slots_of _ _ row.1) a
undo_holds h s p _ t row a = absurd row

ask_holds : (h : ℕ → List PlainSpanData) (s : Counts) (p : ℕ) (o : Outcome) (t : Counts) → AskRow s p o t →
    AreHeldIn h s.control.slots → AreHeldIn h t.control.slots
ask_holds h s p outcome.AlreadyAsked t row a = frees h _ _ p _ (slots_of _ _ row.2) refl a
ask_holds h s p outcome.MayPost t row a = frees h _ _ p _ (slots_of _ _ row.2) refl a
ask_holds h s p outcome.NotEnabled t row a = same_list h _ _ (slots_of _ _ row.1) a
ask_holds h s p _ t row a = absurd row

post_holds : (h : ℕ → List PlainSpanData) (s : Counts) (p : ℕ) (o : Outcome) (t : Counts) → PostRow s p o t →
    AreHeldIn h s.control.slots → AreHeldIn h t.control.slots
post_holds h s p outcome.Closed t row a = frees h _ _ p _ (slots_of _ _ row.2) refl a
post_holds h s p outcome.Full t row a = frees h _ _ p _ (slots_of _ _ row.3) refl a
post_holds h s p outcome.Posted t row a = frees h _ _ p _ (slots_of _ _ row.3) refl a
post_holds h s p outcome.NotEnabled t row a = same_list h _ _ (slots_of _ _ row.1) a
post_holds h s p _ t row a = absurd row

reset_holds : (h : ℕ → List PlainSpanData) (s : Counts) (p : ℕ) (o : Outcome) (t : Counts) → ResetRow s p o t →
    AreHeldIn h s.control.slots → AreHeldIn h t.control.slots
reset_holds h s p outcome.ResetDone t row a = frees h _ _ p _ (slots_of _ _ row.1) refl a
reset_holds h s p outcome.NotEnabled t row a = same_list h _ _ (slots_of _ _ row.1) a
reset_holds h s p _ t row a = absurd row

request_holds : (h : ℕ → List PlainSpanData) (s : Counts) (r : Request) (p : ℕ) (o : Outcome) (t : Counts) → RequestRow s r p o t →
    AreHeldIn h s.control.slots → AreHeldIn h t.control.slots
request_holds h s r p outcome.Closed t row a = same_list h _ _ (slots_of _ _ row.2) a
request_holds h s r p outcome.Full t row a = same_list h _ _ (slots_of _ _ row.3) a
request_holds h s r p outcome.Requested t row a = frees h _ _ p _ (slots_of _ _ row.3) refl a
request_holds h s r p outcome.NotEnabled t row a = same_list h _ _ (slots_of _ _ row.1) a
request_holds h s r p _ t row a = absurd row

collect_holds : (h : ℕ → List PlainSpanData) (s : Counts) (p : ℕ) (o : Outcome) (t : Counts) → CollectRow s p o t →
    AreHeldIn h s.control.slots → AreHeldIn h t.control.slots
collect_holds h s p (outcome.Collected answer) t row a = frees h _ _ p _ (slots_of _ _ row.1) refl a
collect_holds h s p outcome.NotEnabled t row a = same_list h _ _ (slots_of _ _ row.1) a
collect_holds h s p _ t row a = absurd row

post_resource_holds : (h : ℕ → List PlainSpanData) (s : Counts) (resource : PlainResource) (o : Outcome) (t : Counts) → ResourceRow s resource o t →
    AreHeldIn h s.control.slots → AreHeldIn h t.control.slots
post_resource_holds h s resource outcome.Closed t row a = same_list h _ _ (slots_of _ _ row.1) a
post_resource_holds h s resource outcome.Full t row a = same_list h _ _ (slots_of _ _ row.2) a
post_resource_holds h s resource outcome.Posted t row a = same_list h _ _ (slots_of _ _ row.2) a
post_resource_holds h s resource _ t row a = absurd row

take_holds : (h : ℕ → List PlainSpanData) (s : Counts) (o : Outcome) (t : Counts) → TakeRow s o t →
    AreHeldIn h s.control.slots → AreHeldIn h t.control.slots
take_holds h s outcome.Nothing t row a = same_list h _ _ (slots_of _ _ row.2) a
take_holds h s outcome.TookExport t row a = same_list h _ _ (slots_of _ _ row.2) a
take_holds h s (outcome.TookFlush p) t row a = same_list h _ _ (slots_of _ _ row.2) a
take_holds h s (outcome.TookShutdown p) t row a = same_list h _ _ (slots_of _ _ row.2) a
take_holds h s outcome.TookResource t row a = same_list h _ _ (slots_of _ _ row.2) a
take_holds h s outcome.NotEnabled t row a = same_list h _ _ (slots_of _ _ row.1) a
take_holds h s _ t row a = absurd row

tick_holds : (h : ℕ → List PlainSpanData) (s : Counts) (o : Outcome) (t : Counts) → TickRow s o t →
    AreHeldIn h s.control.slots → AreHeldIn h t.control.slots
tick_holds h s outcome.Ticked t row a = same_list h _ _ (slots_of _ _ row.1) a
tick_holds h s outcome.NotEnabled t row a = same_list h _ _ (slots_of _ _ row.1) a
tick_holds h s _ t row a = absurd row

clear_holds : (h : ℕ → List PlainSpanData) (s : Counts) (o : Outcome) (t : Counts) → ClearRow s o t →
    AreHeldIn h s.control.slots → AreHeldIn h t.control.slots
clear_holds h s outcome.Cleared t row a = same_list h _ _ (slots_of _ _ row.1) a
clear_holds h s outcome.NotEnabled t row a = same_list h _ _ (slots_of _ _ row.1) a
clear_holds h s _ t row a = absurd row

load_holds : (h : ℕ → List PlainSpanData) (s : Counts) (o : Outcome) (t : Counts) → LoadRow s o t →
    AreHeldIn h s.control.slots → AreHeldIn h t.control.slots
load_holds h s (outcome.Loaded n) t row a = same_list h _ _ (slots_of _ _ row.3) a
load_holds h s outcome.NotEnabled t row a = same_list h _ _ (slots_of _ _ row.1) a
load_holds h s _ t row a = absurd row

pull_holds : (h : ℕ → List PlainSpanData) (s : Counts) (o : Outcome) (t : Counts) → PullRow s o t →
    AreHeldIn h s.control.slots → AreHeldIn h t.control.slots
pull_holds h s outcome.Empty t row a = same_list h _ _ (slots_of _ _ row.2) a
pull_holds h s outcome.NoMemory t row a = same_list h _ _ (slots_of _ _ row.3) a
pull_holds h s outcome.Pulled t row a = same_list h _ _ (slots_of _ _ row.2) a
pull_holds h s outcome.NotEnabled t row a = same_list h _ _ (slots_of _ _ row.1) a
pull_holds h s _ t row a = absurd row

hand_over_holds : (h : ℕ → List PlainSpanData) (s : Counts) (o : Outcome) (t : Counts) → HandOverRow s o t →
    AreHeldIn h s.control.slots → AreHeldIn h t.control.slots
hand_over_holds h s (outcome.HandedOver k e) t row a = same_list h _ _ (slots_of _ _ row.3) a
hand_over_holds h s outcome.NotEnabled t row a = same_list h _ _ (slots_of _ _ row.1) a
hand_over_holds h s _ t row a = absurd row

subtract_holds : (h : ℕ → List PlainSpanData) (s : Counts) (o : Outcome) (t : Counts) → SubtractRow s o t →
    AreHeldIn h s.control.slots → AreHeldIn h t.control.slots
subtract_holds h s outcome.Subtracted t row a = same_list h _ _ (slots_of _ _ row.2) a
subtract_holds h s outcome.NotEnabled t row a = same_list h _ _ (slots_of _ _ row.1) a
subtract_holds h s _ t row a = absurd row

-- what the producers are said to hold stays what their slots hold
pub permitted-holds : (h : ℕ → List PlainSpanData) (s : Counts) (x : Step) (o : Outcome) (t : Counts) →
    IsPermitted s x o t → AreHeldIn h s.control.slots → AreHeldIn (λ q. holds_after h x o q) t.control.slots
permitted-holds h s (step.Offer p span) o t row a = offer_holds h s p span o t row a
permitted-holds h s (step.Send p) o t row a = send_holds h s p o t row a
permitted-holds h s (step.Undo p) o t row a = undo_holds h s p o t row a
permitted-holds h s (step.Ask p) o t row a = ask_holds h s p o t row a
permitted-holds h s (step.Post p) o t row a = post_holds h s p o t row a
permitted-holds h s (step.Reset p) o t row a = reset_holds h s p o t row a
permitted-holds h s (step.RequestFlush p) o t row a = request_holds h s request.Flush p o t row a
permitted-holds h s (step.RequestShutdown p) o t row a = request_holds h s request.Shutdown p o t row a
permitted-holds h s (step.Collect p) o t row a = collect_holds h s p o t row a
permitted-holds h s (step.PostResource resource) o t row a = post_resource_holds h s resource o t row a
permitted-holds h s step.Take o t row a = take_holds h s o t row a
permitted-holds h s step.Tick o t row a = tick_holds h s o t row a
permitted-holds h s step.Clear o t row a = clear_holds h s o t row a
permitted-holds h s step.Load o t row a = load_holds h s o t row a
permitted-holds h s step.Pull o t row a = pull_holds h s o t row a
permitted-holds h s step.HandOver o t row a = hand_over_holds h s o t row a
permitted-holds h s step.Subtract o t row a = subtract_holds h s o t row a
permitted-holds h s step.Close o t row a = close_holds h s o t row a
permitted-holds h s step.Finish o t row a = finish_holds h s o t row a

-- a slot that holds a span
held-holding : (o : Option Slot) → is_holding o ≡ true → (span : PlainSpanData) × (span_held o ≡ span ∷ [])
held-holding None e = cc
held-holding (Some (slot.Holding span n)) e = (span, refl)
held-holding (Some slot.Idle) e = cc
held-holding (Some slot.Refused) e = cc
held-holding (Some slot.Asking) e = cc
held-holding (Some slot.Posting) e = cc
held-holding (Some slot.Resetting) e = cc
held-holding (Some (slot.Waiting r)) e = cc
held-holding (Some (slot.Answered r)) e = cc

-- a send accepts what its producer is said to hold
pub accepts-held : (h : ℕ → List PlainSpanData) (s : Counts) (x : Step) (o : Outcome) (t : Counts) →
    IsPermitted s x o t → AreHeldIn h s.control.slots → accepts (holds_at s.control.slots) x o ≡ accepts h x o
accepts-held h s (step.Send p) outcome.Accepted t row a =
    let x = held-holding (slice_get s.control.slots p) row.0 in
    x.1 ∙ sym (a.each p x.0 x.1)
accepts-held h s _ _ t row a = refl
