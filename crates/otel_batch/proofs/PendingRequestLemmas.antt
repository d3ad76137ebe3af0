-- Along a run of the batch queue each request is pending up to its answer.
use Rattle.std.proofs.Common.{◌≡◌, inl, inr, ◌∙◌, ap, refl, zero, suc, ℕ, ◌<◌, true, List, [], ◌∷◌, length, Some, None, Result, slice_get, slice_set, arith}
use Rattle.std.proofs.lemmas.Option.{slice_get_within}
use Rattle.circular_buffer.proofs.Places.{slice_get-set_same}
use Rattle.otel_export.specs.declared.error.OTelSdkError.{OTelSdkError}
use Rattle.otel_batch.specs.Slots.{slot_waits}
use Rattle.otel_batch.specs.Workers.{is_gone}
use Rattle.otel_batch.specs.MachineState.{Machine, Counts, counts, slot_at}
use Rattle.otel_batch.specs.SoundMachine.{IsSound}
use Rattle.otel_batch.specs.RequestSteps.{RequestRow}
use Rattle.otel_batch.specs.PermittedStep.{IsPermitted}
use Rattle.otel_batch.specs.MachineRun.{Run}
use Rattle.otel_batch.specs.KnownRequests.{step_of, requests_of, IsPending, IsAnswered, StaysAnswered, StaysKnown, IsKnownAfter, KnowsRequests}
use Rattle.otel_batch.specs.declared.machine.state.Request.{Request}
use Rattle.otel_batch.specs.declared.machine.state.Request.TheVariants as request
use Rattle.otel_batch.specs.declared.machine.state.Slot.TheVariants as slot
use Rattle.otel_batch.specs.declared.machine.state.Worker.TheVariants as worker
use Rattle.otel_batch.specs.declared.machine.step.Outcome.{Outcome}
use Rattle.otel_batch.specs.declared.machine.step.Outcome.TheVariants as outcome
use Rattle.otel_batch.specs.declared.machine.step.Step.{Step}
use Rattle.otel_export.specs.declared.trace.export.SpanExporter.{Ghosts}
use Rattle.otel_batch.proofs.SlotSums.{is_answered-slot}
use Rattle.otel_batch.proofs.Requests.{answered-left}
use Rattle.otel_batch.proofs.Silence.{gone_is}

-- a request that is waited for is pending
pending : (p : ℕ) (asked : Request) (s : Counts) → IsSound s → slot_at s p ≡ Some (slot.Waiting asked) →
    IsPending p asked s
pending p asked s sound waits = record { waits = waits; once = sound.awaited.each p ∙ ap slot_waits waits }

-- an answer that is there is that of no other request
answered : (p : ℕ) (answer : Result (Unit {0}) OTelSdkError) (s : Counts) → IsSound s →
    slot_at s p ≡ Some (slot.Answered answer) → IsAnswered p answer s
answered p answer s sound has = record { has = has; left = answered-left p answer s sound has }

-- who has made a request waits for its answer
requested-waits : (s : Counts) (asked : Request) (p : ℕ) (t : Counts) → RequestRow s asked p outcome.Requested t →
    slot_at t p ≡ Some (slot.Waiting asked)
requested-waits s asked p t row =
    let lt : p < length s.control.slots = slice_get_within s.control.slots p slot.Idle row.0 in
    let slots : t.control.slots ≡ slice_set s.control.slots p (slot.Waiting asked) = ap (λ c. c.control.slots) row.3 in
    rw slots (slice_get-set_same s.control.slots p (slot.Waiting asked) lt)

posted-waits : (s : Counts) (asked : Request) (p : ℕ) (t : Counts) →
    IsPermitted s (step_of asked p) outcome.Requested t → slot_at t p ≡ Some (slot.Waiting asked)
posted-waits s request.Flush p t row = requested-waits s request.Flush p t row
posted-waits s request.Shutdown p t row = requested-waits s request.Shutdown p t row

-- once the worker is gone nobody waits
pub gone-waits : (s : Counts) → IsSound s → is_gone s.control.worker ≡ true → (p : ℕ) →
    slot_waits (slice_get s.control.slots p) ≡ 0
gone-waits s sound gone p =
    let at : s.control.worker ≡ worker.Gone = gone_is s.control.worker gone in
    let none : s.control.messages ≡ [] = sound.awaited.empty (sound.awaited.gone ∙ gone) in
    let each : requests_of p s ≡ slot_waits (slice_get s.control.slots p) = sound.awaited.each p in
    let here : requests_of p s ≡ 0 = rw (at, none) refl in
    omega (arith, each, here)

module _ {E : Type 0} (calls : Ghosts E) where
  -- an answer that is there at the start of a run stays along it
  stays-answered : (p : ℕ) (answer : Result (Unit {0}) OTelSdkError) (s : Machine E) (xs : List Step)
      (os : List Outcome) (t : Machine E) → IsSound (counts s) →
      slot_at (counts s) p ≡ Some (slot.Answered answer) → Run calls s xs os t →
      StaysAnswered calls p answer s xs os t
  stays-answered p answer s [] [] t sound has run = (answered p answer (counts s) sound has, run)
  stays-answered p answer s (x ∷ xs) (o ∷ os) t sound has run = (
    answered p answer (counts s) sound has,
    run.0,
    run.1,
    elim (run.1.requests.answered p answer has) [
      | inl still ↦ inl (stays-answered p answer run.0 xs os t run.1.sound still run.2)
      | inr collected ↦ inr (collected, run.2)
    ],
  )
  stays-answered p answer s [] (o ∷ os) t sound has run = absurd run
  stays-answered p answer s (x ∷ xs) [] t sound has run = absurd run

  -- a request that is pending at the start of a run is known along it
  stays-known : (p : ℕ) (asked : Request) (s : Machine E) (xs : List Step) (os : List Outcome) (t : Machine E) →
      IsSound (counts s) → slot_at (counts s) p ≡ Some (slot.Waiting asked) → Run calls s xs os t →
      StaysKnown calls p asked s xs os t
  stays-known p asked s [] [] t sound waits run = (pending p asked (counts s) sound waits, run)
  stays-known p asked s (x ∷ xs) (o ∷ os) t sound waits run = (
    pending p asked (counts s) sound waits,
    run.0,
    run.1,
    elim (run.1.requests.each p asked waits) [
      | inl still ↦ inl (stays-known p asked run.0 xs os t run.1.sound still run.2)
      | inr done ↦
          let given = is_answered-slot (slot_at (counts run.0) p) done.0 in
          inr (done.1, given.0, stays-answered p given.0 run.0 xs os t run.1.sound given.1 run.2)
    ],
  )
  stays-known p asked s [] (o ∷ os) t sound waits run = absurd run
  stays-known p asked s (x ∷ xs) [] t sound waits run = absurd run

  -- so is one that was made in it
  made-known : (n p : ℕ) (asked : Request) (s : Machine E) (xs : List Step) (os : List Outcome) (t : Machine E) →
      Run calls s xs os t → slice_get xs n ≡ Some (step_of asked p) → slice_get os n ≡ Some outcome.Requested →
      IsKnownAfter calls n p asked s xs os t
  made-known n p asked s [] [] t run at e =
      absurd (let os : List Outcome = [] in let none : slice_get os n ≡ None = refl in cc)
  made-known zero p asked s (x ∷ xs) (o ∷ os) t run at e =
      let is : x ≡ step_of asked p = cc in
      let made : o ≡ outcome.Requested = cc in
      let row : IsPermitted (counts s) (step_of asked p) outcome.Requested (counts run.0) =
      rw (is, made) at run.1.permitted in
      record {
        before = s;
        posted = run.0;
        up_to = refl;
        posts = (run.0, run.1, refl);
        after = stays-known p asked run.0 xs os t run.1.sound (posted-waits (counts s) asked p (counts run.0) row) run.2;
      }
  made-known (suc n) p asked s (x ∷ xs) (o ∷ os) t run at e =
      let later = made-known n p asked run.0 xs os t run.2 at e in
      record {
        before = later.before;
        posted = later.posted;
        up_to = (run.0, run.1, later.up_to);
        posts = later.posts;
        after = later.after;
      }
  made-known n p asked s [] (o ∷ os) t run at e = absurd run
  made-known n p asked s (x ∷ xs) [] t run at e = absurd run

  -- a run loses no request
  pub run-knows : (s : Machine E) (xs : List Step) (os : List Outcome) (t : Machine E) → IsSound (counts s) →
      Run calls s xs os t → KnowsRequests calls s xs os t
  run-knows s xs os t sound run = record {
    earlier = λ p asked waits. stays-known p asked s xs os t sound waits run;
    made = λ n p asked at e. made-known n p asked s xs os t run at e;
    answered = λ p answer has. stays-answered p answer s xs os t sound has run;
  }
