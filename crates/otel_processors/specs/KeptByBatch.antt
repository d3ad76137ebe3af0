-- A batch processor takes back no batch that its exporter keeps: no step of its queue does.
use Rattle.std.specs.Prelude.{◌≡◌, ◌+◌, ℕ, nat_le, Bool, true, false, List, [], ◌∷◌, Option, Some, None, Result}
use Rattle.std.specs.Prelude.{MatchBool, MatchOption}
use Rattle.std.specs.declared.alloc.AllocError.{AllocError}
use Rattle.std.proofs.Common.{ap}
use Rattle.otel_export.specs.declared.error.OTelSdkError.{OTelSdkError}
use Rattle.otel_export.specs.PlainSpanData.{PlainSpanData}
use Rattle.otel_export.specs.StoredBatches.{StoredBatches}
use Rattle.otel_export.specs.declared.trace.export.SpanExporter.{Ghosts}
use Rattle.otel_export.specs.KeptBatches.{ExporterAppends, OnlyAdds, adds_more, adds_none}
use Rattle.otel_batch.specs.MachineState.{Control, Machine, counts, is_crowded}
use Rattle.otel_batch.specs.Drains.{has_full_batch}
use Rattle.otel_batch.specs.MachineRun.{Run}
use Rattle.otel_batch.specs.MovedSpans.{MovesSpans}
use Rattle.otel_batch.specs.KnownRequests.{step_of}
use Rattle.otel_batch.specs.declared.machine.state.Request.{Request}
use Rattle.otel_batch.specs.declared.machine.step.Outcome.{Outcome}
use Rattle.otel_batch.specs.declared.machine.step.Outcome.TheVariants as outcome
use Rattle.otel_batch.specs.declared.machine.step.Step.{Step}
use Rattle.otel_batch.specs.declared.machine.step.Step.TheVariants as step
use Rattle.otel_batch.specs.WorkedOff.{GoesBy, TicksAndWorks, WorkerWorks}
use Rattle.otel_processors.specs.BatchProcessor.{BatchDue, BatchEnds, BatchProcessor, EndsByQueue, EndsEagerly}
use Rattle.otel_processors.specs.QueueRequests.{AnswersRequest}
use Rattle.otel_processors.specs.BatchProcessor.{DrainsByTimer, TellsTime, WorksAndTellsTime, ends_eagerly}
use Rattle.otel_processors.specs.EagerExports.{Drains, DrainsIfFull, ExportsFullBatch, OffersEagerly, Works, WorksIfFull}
use Rattle.otel_processors.specs.QueueRequests.{Requests}

module _ {E : Type 0} (calls : Ghosts E) (stored : E → StoredBatches)
    (appends : ExporterAppends calls stored) where
  stays : (s t : Machine E) → t.exporter ≡ s.exporter → OnlyAdds (stored s.exporter) (stored t.exporter)
  stays s t e = adds_none (stored s.exporter) (stored t.exporter) (ap stored e)

  -- one step of the queue
  moved_appends : (s : Machine E) (x : Step) (o : Outcome) (t : Machine E) → MovesSpans calls s x o t
      → OnlyAdds (stored s.exporter) (stored t.exporter)
  moved_appends s (step.Send p) outcome.Accepted t m = stays s t m.exporter
  moved_appends s step.Pull outcome.Pulled t m = stays s t m.exporter
  moved_appends s step.HandOver (outcome.HandedOver k e) t m =
      appends.exports s.exporter s.hand m.answer t.exporter m.gives
  moved_appends s step.Take outcome.TookResource t m = appends.passes s.exporter _ t.exporter m.gives
  moved_appends s step.Close (outcome.ShutDown n) t m =
      appends.shuts s.exporter 5_000_000_000 m.answer t.exporter m.gives
  moved_appends s _ _ t m = stays s t m.exporter

  run_appends : (s : Machine E) (xs : List Step) (os : List Outcome) (t : Machine E) → Run calls s xs os t
      → OnlyAdds (stored s.exporter) (stored t.exporter)
  run_appends s [] [] t run = stays s t (ap (λ m. m.exporter) run)
  run_appends s (x ∷ xs) (o ∷ os) t run = adds_more (stored s.exporter) (stored run.0.exporter) (stored t.exporter)
      (moved_appends s x o run.0 run.1.moved) (run_appends run.0 xs os t run.2)
  run_appends s [] (o ∷ os) t run = absurd run
  run_appends s (x ∷ xs) [] t run = absurd run

  goes_appends : (next : Control → Option Step) (s : Machine E) (xs : List Step) (os : List Outcome) (t : Machine E)
      → GoesBy calls next s xs os t → OnlyAdds (stored s.exporter) (stored t.exporter)
  goes_appends next s [] [] t goes = stays s t (ap (λ m. m.exporter) goes)
  goes_appends next s (x ∷ xs) (o ∷ os) t goes =
      adds_more (stored s.exporter) (stored goes.1.exporter) (stored t.exporter)
      (moved_appends s x o goes.1 goes.2.moved) (goes_appends next goes.1 xs os t goes.3)
  goes_appends next s [] (o ∷ os) t goes = absurd goes
  goes_appends next s (x ∷ xs) [] t goes = absurd goes

  -- a call that leaves a batch processor as it was stores nothing
  pub batch_stays : {B : Type 0} (p q : BatchProcessor E) → (q ≡ p) × B
      → stored q.machine.exporter ≡ stored p.machine.exporter
  batch_stays p q h = ap (λ (r : BatchProcessor E). stored r.machine.exporter) h.0

  works_appends : (s : Machine E) (answer : Result (Unit {0}) OTelSdkError) (t : Machine E)
      → WorkerWorks calls s answer t → OnlyAdds (stored s.exporter) (stored t.exporter)
  works_appends s answer t h = goes_appends _ s h.works.steps h.outcomes t h.works.goes

  answers_appends : (asked : Request) (s : Machine E) (answer : Result (Unit {0}) OTelSdkError) (t : Machine E)
      → AnswersRequest calls asked s answer t → OnlyAdds (stored s.exporter) (stored t.exporter)
  answers_appends asked s answer t h =
      let done = h.answers in
      let collected = adds_more (stored h.posted.exporter) (stored done.answered.exporter) (stored t.exporter)
      (goes_appends _ h.posted done.works.steps done.outcomes done.answered done.works.goes)
      (run_appends done.answered (step.Collect 0 ∷ []) (outcome.Collected answer ∷ []) t done.collects) in
      adds_more (stored s.exporter) (stored h.posted.exporter) (stored t.exporter)
      (run_appends s (step_of asked 0 ∷ []) (outcome.Requested ∷ []) h.posted h.posts) collected

  pub requests_appends : (asked : Request) (s : Machine E) (answer : Result (Unit {0}) OTelSdkError) (t : Machine E)
      → Requests calls asked s answer t → OnlyAdds (stored s.exporter) (stored t.exporter)
  requests_appends asked s answer t = by_state _ _ s.control.closed (is_crowded (counts s))
    where
      by_state : (A B : Type 0) (closed crowded : Bool)
          → MatchBool closed (A × (t ≡ s)) (MatchBool crowded (B × (t ≡ s)) (AnswersRequest calls asked s answer t))
          → OnlyAdds (stored s.exporter) (stored t.exporter)
      by_state A B true crowded h = stays s t (ap (λ m. m.exporter) h.1)
      by_state A B false true h = stays s t (ap (λ m. m.exporter) h.1)
      by_state A B false false h = answers_appends asked s answer t h

  ticks_appends : (s : Machine E) (answer : Result (Unit {0}) OTelSdkError) (t : Machine E)
      → TicksAndWorks calls s answer t → OnlyAdds (stored s.exporter) (stored t.exporter)
  ticks_appends s answer t h = adds_more (stored s.exporter) (stored h.ticked.exporter) (stored t.exporter)
      (run_appends s (step.Tick ∷ []) (outcome.Ticked ∷ []) h.ticked h.ticks) (works_appends h.ticked answer t h.works)

  tells_appends : (now : ℕ) (p : BatchProcessor E) (worked answer : Result (Unit {0}) OTelSdkError)
      (q : BatchProcessor E) → TellsTime calls now p worked answer q
      → OnlyAdds (stored p.machine.exporter) (stored q.machine.exporter)
  tells_appends now p worked answer q = by_last p.last
    where
      by_time : (due : Bool) → MatchBool due (DrainsByTimer calls now p answer q) ((answer ≡ worked) × (q ≡ p))
          → OnlyAdds (stored p.machine.exporter) (stored q.machine.exporter)
      by_time true h = ticks_appends p.machine answer q.machine h.drains
      by_time false h = stays p.machine q.machine (ap (λ r. r.machine.exporter) h.1)

      by_last : (last : Option ℕ) → MatchOption last
          ((answer ≡ worked) × (q ≡ record p { last = Some now }))
          (λ l. MatchBool (nat_le (l + p.delay) now) (DrainsByTimer calls now p answer q) ((answer ≡ worked) × (q ≡ p)))
          → OnlyAdds (stored p.machine.exporter) (stored q.machine.exporter)
      by_last None h = stays p.machine q.machine (ap (λ r. r.machine.exporter) h.1)
      by_last (Some l) h = by_time (nat_le (l + p.delay) now) h

  pub due_appends : (p : BatchProcessor E) (now : ℕ) (answer : Result (Unit {0}) OTelSdkError) (q : BatchProcessor E)
      → BatchDue calls p now answer q → OnlyAdds (stored p.machine.exporter) (stored q.machine.exporter)
  due_appends p now answer q = by_state _ p.machine.control.closed
    where
      by_state : (A : Type 0) (closed : Bool) → MatchBool closed (A × (q ≡ p)) (WorksAndTellsTime calls now p answer q)
          → OnlyAdds (stored p.machine.exporter) (stored q.machine.exporter)
      by_state A true h = stays p.machine q.machine (ap (λ r. r.machine.exporter) h.1)
      by_state A false h = adds_more (stored p.machine.exporter) (stored h.idle.machine.exporter)
          (stored q.machine.exporter) (works_appends p.machine h.worked h.idle.machine h.works.works)
          (tells_appends now h.idle h.worked answer q h.tells)

  full_works_append : (s : Machine E) (failed : ℕ) (t : Machine E)
      → WorksIfFull calls s failed t → OnlyAdds (stored s.exporter) (stored t.exporter)
  full_works_append s failed t = by_full (has_full_batch s)
    where
      by_full : (full : Bool) → MatchBool full (Works calls s failed t) ((failed ≡ 0) × (t ≡ s))
          → OnlyAdds (stored s.exporter) (stored t.exporter)
      by_full true h = works_appends s h.answer t h.works
      by_full false h = stays s t (ap (λ m. m.exporter) h.1)

  full_drains_append : (s : Machine E) (refused : Bool) (failed : ℕ) (t : Machine E)
      → DrainsIfFull calls s refused failed t → OnlyAdds (stored s.exporter) (stored t.exporter)
  full_drains_append s refused failed t = by_full (has_full_batch s)
    where
      by_full : (full : Bool) → MatchBool full (Drains calls s refused failed t)
          ((refused ≡ false) × (failed ≡ 0) × (t ≡ s)) → OnlyAdds (stored s.exporter) (stored t.exporter)
      by_full true h = ticks_appends s h.answer t h.drain
      by_full false h = stays s t (ap (λ m. m.exporter) h.2)

  exports_append : (s : Machine E) (refused : Bool) (failed : ℕ) (t : Machine E)
      → ExportsFullBatch calls s refused failed t → OnlyAdds (stored s.exporter) (stored t.exporter)
  exports_append s refused failed t h = adds_more (stored s.exporter) (stored h.idle.exporter) (stored t.exporter)
      (full_works_append s h.failed_working h.idle h.works)
      (full_drains_append h.idle refused h.failed_draining t h.drains)

  eagerly_appends : (s : Machine E) (span : PlainSpanData) (refused : Bool) (failed : ℕ) (t : Machine E)
      → OffersEagerly calls s span refused failed t → OnlyAdds (stored s.exporter) (stored t.exporter)
  eagerly_appends s span refused failed t h =
      adds_more (stored s.exporter) (stored h.queued.exporter) (stored t.exporter)
      (adds_more (stored s.exporter) (stored h.roomy.exporter) (stored h.queued.exporter)
      (exports_append s h.refused_before h.failed_before h.roomy h.makes_room)
      (stays h.roomy h.queued h.offers.exporter))
      (by_full (has_full_batch h.roomy) h.exports)
    where
      by_full : (full : Bool) → MatchBool full
          ((h.refused_after ≡ false) × (h.failed_after ≡ 0) × (t ≡ h.queued))
          (ExportsFullBatch calls h.queued h.refused_after h.failed_after t)
          → OnlyAdds (stored h.queued.exporter) (stored t.exporter)
      by_full true given = stays h.queued t (ap (λ m. m.exporter) given.2)
      by_full false given = exports_append h.queued h.refused_after h.failed_after t given

  pub ends_appends : (p : BatchProcessor E) (span : PlainSpanData) (answer : Result (Unit {0}) AllocError)
      (q : BatchProcessor E) → BatchEnds calls p span answer q
      → OnlyAdds (stored p.machine.exporter) (stored q.machine.exporter)
  ends_appends p span answer q h = by_kind (ends_eagerly p span) h.ends
    where
      by_kind : (eagerly : Bool)
          → MatchBool eagerly (EndsEagerly calls p span h.refused q) (EndsByQueue calls p span h.refused q)
          → OnlyAdds (stored p.machine.exporter) (stored q.machine.exporter)
      by_kind true ends = eagerly_appends p.machine span h.refused ends.failed q.machine ends.offers
      by_kind false ends = stays p.machine q.machine ends.offers.exporter
