-- After a completed shutdown the worker of the batch queue is gone, and nothing is exported.
use Rattle.std.proofs.Common.{◌≡◌, ◌∙◌, ap, sym, refl, zero, suc, ℕ, true, false, List, [], ◌∷◌, ◌++◌, None, length, slice_get}
use Rattle.otel_batch.specs.Workers.{is_closing, is_gone}
use Rattle.otel_batch.specs.MachineState.{Machine, Counts, counts}
use Rattle.otel_batch.specs.SoundMachine.{IsSound}
use Rattle.otel_batch.specs.WorkerSteps.{TakeRow, TickRow, ClearRow, LoadRow, PullRow, HandOverRow, SubtractRow}
use Rattle.otel_batch.specs.DrainEnds.{FinishRow, CloseRow}
use Rattle.otel_batch.specs.PermittedStep.{IsPermitted}
use Rattle.otel_batch.specs.MovedSpans.{Keeps, MovesSpans}
use Rattle.otel_batch.specs.MachineRun.{Run, IsStep, batch_sizes}
use Rattle.otel_batch.specs.ShutdownSilence.{SilentAfterShutdown, StaysSilent}
use Rattle.otel_batch.specs.declared.machine.state.Worker.{Worker}
use Rattle.otel_batch.specs.declared.machine.state.Worker.TheVariants as worker
use Rattle.otel_batch.specs.declared.machine.step.Outcome.{Outcome}
use Rattle.otel_batch.specs.declared.machine.step.Outcome.TheVariants as outcome
use Rattle.otel_batch.specs.declared.machine.step.Step.{Step}
use Rattle.otel_batch.specs.declared.machine.step.Step.TheVariants as step
use Rattle.otel_export.specs.declared.trace.export.SpanExporter.{Ghosts}
use Rattle.otel_batch.proofs.TableFacts.{is_producers, LeavesWorker, permitted-alone}
use Rattle.otel_batch.proofs.Conserving.{sizes-first}
use Rattle.otel_batch.proofs.Runs.{run-sound}

pub gone_is : (w : Worker) → is_gone w ≡ true → w ≡ worker.Gone
gone_is worker.Gone e = refl
gone_is worker.Ready e = cc
gone_is worker.Clearing e = cc
gone_is (worker.Loading y) e = cc
gone_is worker.Pulling e = cc
gone_is worker.Handing e = cc
gone_is (worker.Subtracting k) e = cc
gone_is worker.Finishing e = cc
gone_is (worker.Closing p) e = cc

-- the worker stays gone, and no batch was handed over
record StaysGone (o : Outcome) (t : Counts) : Type 0 where
  gone : t.control.worker ≡ worker.Gone
  no_batch : batch_sizes (o ∷ []) ≡ []

-- no producer's step hands a batch over
pub producers-no_batch : (o : Outcome) → is_producers o ≡ true → batch_sizes (o ∷ []) ≡ []
producers-no_batch (outcome.HandedOver k e) is = cc
producers-no_batch _ is = refl

gone_by : (o : Outcome) (s t : Counts) → s.control.worker ≡ worker.Gone → LeavesWorker o s t → StaysGone o t
gone_by o s t gone leaves =
    record { gone = leaves.worker ∙ gone; no_batch = producers-no_batch o leaves.producers }

rests_gone : (s t : Counts) → t ≡ s → s.control.worker ≡ worker.Gone → StaysGone outcome.NotEnabled t
rests_gone s t e gone = record { gone = ap (λ c. c.control.worker) e ∙ gone; no_batch = refl }

take_gone : (s : Counts) (o : Outcome) (t : Counts) → s.control.worker ≡ worker.Gone → TakeRow s o t → StaysGone o t
take_gone s outcome.Nothing t gone row = absurd (let at = row.0 in cc)
take_gone s outcome.TookExport t gone row = absurd (let at = row.0 in cc)
take_gone s (outcome.TookFlush p) t gone row = absurd (let at = row.0 in cc)
take_gone s (outcome.TookShutdown p) t gone row = absurd (let at = row.0 in cc)
take_gone s outcome.TookResource t gone row = absurd (let at = row.0 in cc)
take_gone s outcome.NotEnabled t gone row = rests_gone s t row.1 gone
take_gone s _ t gone row = absurd row

tick_gone : (s : Counts) (o : Outcome) (t : Counts) → s.control.worker ≡ worker.Gone → TickRow s o t → StaysGone o t
tick_gone s outcome.Ticked t gone row = absurd (let at = row.0 in cc)
tick_gone s outcome.NotEnabled t gone row = rests_gone s t row.1 gone
tick_gone s _ t gone row = absurd row

clear_gone : (s : Counts) (o : Outcome) (t : Counts) → s.control.worker ≡ worker.Gone → ClearRow s o t → StaysGone o t
clear_gone s outcome.Cleared t gone row = absurd (let at = row.0 in cc)
clear_gone s outcome.NotEnabled t gone row = rests_gone s t row.1 gone
clear_gone s _ t gone row = absurd row

load_gone : (s : Counts) (o : Outcome) (t : Counts) → s.control.worker ≡ worker.Gone → LoadRow s o t → StaysGone o t
load_gone s (outcome.Loaded n) t gone row = absurd (let at = row.1 in cc)
load_gone s outcome.NotEnabled t gone row = rests_gone s t row.1 gone
load_gone s _ t gone row = absurd row

pull_gone : (s : Counts) (o : Outcome) (t : Counts) → s.control.worker ≡ worker.Gone → PullRow s o t → StaysGone o t
pull_gone s outcome.Empty t gone row = absurd (let at = row.0 in cc)
pull_gone s outcome.NoMemory t gone row = absurd (let at = row.0 in cc)
pull_gone s outcome.Pulled t gone row = absurd (let at = row.0 in cc)
pull_gone s outcome.NotEnabled t gone row = rests_gone s t row.1 gone
pull_gone s _ t gone row = absurd row

hand_over_gone : (s : Counts) (o : Outcome) (t : Counts) → s.control.worker ≡ worker.Gone → HandOverRow s o t → StaysGone o t
hand_over_gone s (outcome.HandedOver k e) t gone row = absurd (let at = row.0 in cc)
hand_over_gone s outcome.NotEnabled t gone row = rests_gone s t row.1 gone
hand_over_gone s _ t gone row = absurd row

subtract_gone : (s : Counts) (o : Outcome) (t : Counts) → s.control.worker ≡ worker.Gone → SubtractRow s o t → StaysGone o t
subtract_gone s outcome.Subtracted t gone row = absurd (let at = row.1 in cc)
subtract_gone s outcome.NotEnabled t gone row = rests_gone s t row.1 gone
subtract_gone s _ t gone row = absurd row

close_gone : (s : Counts) (o : Outcome) (t : Counts) → s.control.worker ≡ worker.Gone → CloseRow s o t → StaysGone o t
close_gone s (outcome.ShutDown n) t gone row =
    absurd (let at : is_closing s.control.worker ≡ false = rw gone refl in let closing = row.0 in cc)
close_gone s outcome.NotEnabled t gone row = rests_gone s t row.1 gone
close_gone s _ t gone row = absurd row

finish_gone : (s : Counts) (o : Outcome) (t : Counts) → s.control.worker ≡ worker.Gone → FinishRow s o t → StaysGone o t
finish_gone s (outcome.Finished e) t gone row = absurd (let at = row.0 in cc)
finish_gone s outcome.NotEnabled t gone row = rests_gone s t row.1 gone
finish_gone s _ t gone row = absurd row

permitted_gone : (s : Counts) (x : Step) (o : Outcome) (t : Counts) → s.control.worker ≡ worker.Gone →
    IsPermitted s x o t → StaysGone o t
permitted_gone s (step.Offer p span) o t gone row = gone_by o s t gone (permitted-alone s (step.Offer p span) o t refl row)
permitted_gone s (step.Send p) o t gone row = gone_by o s t gone (permitted-alone s (step.Send p) o t refl row)
permitted_gone s (step.Undo p) o t gone row = gone_by o s t gone (permitted-alone s (step.Undo p) o t refl row)
permitted_gone s (step.Ask p) o t gone row = gone_by o s t gone (permitted-alone s (step.Ask p) o t refl row)
permitted_gone s (step.Post p) o t gone row = gone_by o s t gone (permitted-alone s (step.Post p) o t refl row)
permitted_gone s (step.Reset p) o t gone row = gone_by o s t gone (permitted-alone s (step.Reset p) o t refl row)
permitted_gone s (step.RequestFlush p) o t gone row = gone_by o s t gone (permitted-alone s (step.RequestFlush p) o t refl row)
permitted_gone s (step.RequestShutdown p) o t gone row = gone_by o s t gone (permitted-alone s (step.RequestShutdown p) o t refl row)
permitted_gone s (step.Collect p) o t gone row = gone_by o s t gone (permitted-alone s (step.Collect p) o t refl row)
permitted_gone s (step.PostResource resource) o t gone row = gone_by o s t gone (permitted-alone s (step.PostResource resource) o t refl row)
permitted_gone s step.Take o t gone row = take_gone s o t gone row
permitted_gone s step.Tick o t gone row = tick_gone s o t gone row
permitted_gone s step.Clear o t gone row = clear_gone s o t gone row
permitted_gone s step.Load o t gone row = load_gone s o t gone row
permitted_gone s step.Pull o t gone row = pull_gone s o t gone row
permitted_gone s step.HandOver o t gone row = hand_over_gone s o t gone row
permitted_gone s step.Subtract o t gone row = subtract_gone s o t gone row
permitted_gone s step.Close o t gone row = close_gone s o t gone row
permitted_gone s step.Finish o t gone row = finish_gone s o t gone row

-- only the worker's last step completes a shutdown
shut_down-closes : (s : Counts) (x : Step) (k : ℕ) (t : Counts) → IsPermitted s x (outcome.ShutDown k) t → x ≡ step.Close
shut_down-closes s (step.Offer p span) k t row = absurd row
shut_down-closes s (step.Send p) k t row = absurd row
shut_down-closes s (step.Undo p) k t row = absurd row
shut_down-closes s (step.Ask p) k t row = absurd row
shut_down-closes s (step.Post p) k t row = absurd row
shut_down-closes s (step.Reset p) k t row = absurd row
shut_down-closes s (step.RequestFlush p) k t row = absurd row
shut_down-closes s (step.RequestShutdown p) k t row = absurd row
shut_down-closes s (step.Collect p) k t row = absurd row
shut_down-closes s (step.PostResource resource) k t row = absurd row
shut_down-closes s step.Take k t row = absurd row
shut_down-closes s step.Tick k t row = absurd row
shut_down-closes s step.Clear k t row = absurd row
shut_down-closes s step.Load k t row = absurd row
shut_down-closes s step.Pull k t row = absurd row
shut_down-closes s step.HandOver k t row = absurd row
shut_down-closes s step.Subtract k t row = absurd row
shut_down-closes s step.Close k t row = refl
shut_down-closes s step.Finish k t row = absurd row

module _ {E : Type 0} (calls : Ghosts E) where
  -- a machine that is closed and whose worker is gone moves no span, and keeps its exporter
  moved_gone : (s : Machine E) (x : Step) (o : Outcome) (t : Machine E) → s.control.worker ≡ worker.Gone →
      s.control.closed ≡ true → IsPermitted (counts s) x o (counts t) → MovesSpans calls s x o t → Keeps s t
  moved_gone s (step.Send p) outcome.Accepted t gone closed row m = absurd (let open_is = row.1 in cc)
  moved_gone s step.Pull outcome.Pulled t gone closed row m = absurd (let at = row.0 in cc)
  moved_gone s step.HandOver (outcome.HandedOver k e) t gone closed row m = absurd (let at = row.0 in cc)
  moved_gone s step.Take outcome.TookResource t gone closed row m = absurd (let at = row.0 in cc)
  moved_gone s step.Close (outcome.ShutDown n) t gone closed row m =
      absurd (let at : is_closing s.control.worker ≡ false = rw gone refl in let closing = row.0 in cc)
  moved_gone s _ _ t gone closed row m = m

  -- what a machine keeps whose worker is gone
  record RestsGone (s : Machine E) (os : List Outcome) (t : Machine E) : Type 0 where
    keeps : Keeps s t
    no_batch : batch_sizes os ≡ []
    gone : t.control.worker ≡ worker.Gone

  gone_run : (s : Machine E) (xs : List Step) (os : List Outcome) (t : Machine E) → s.control.worker ≡ worker.Gone →
      s.control.closed ≡ true → Run calls s xs os t → RestsGone s os t
  gone_run s [] [] t gone closed run = record {
    keeps = record {
      exporter = ap (λ m. m.exporter) run;
      hand = ap (λ m. m.hand) run;
      waiting = ap (λ m. m.waiting) run;
    };
    no_batch = refl;
    gone = ap (λ m. m.control.worker) run ∙ gone;
  }
  gone_run s (x ∷ xs) (o ∷ os) t gone closed run =
      let stays = permitted_gone (counts s) x o (counts run.0) gone run.1.permitted in
      let first = moved_gone s x o run.0 gone closed run.1.permitted run.1.moved in
      let rest = gone_run run.0 xs os t stays.gone (run.1.sound.awaited.gone ∙ ap is_gone stays.gone) run.2 in
      record {
        keeps = record {
          exporter = rest.keeps.exporter ∙ first.exporter;
          hand = rest.keeps.hand ∙ first.hand;
          waiting = rest.keeps.waiting ∙ first.waiting;
        };
        no_batch = sizes-first o os ∙ ap (λ l. l ++ batch_sizes os) stays.no_batch ∙ rest.no_batch;
        gone = rest.gone;
      }
  gone_run s [] (o ∷ os) t gone closed run = absurd run
  gone_run s (x ∷ xs) [] t gone closed run = absurd run

  -- a machine that is closed stays so, its exporter is not used, and no span moves
  pub run-stays_silent : (s : Machine E) (xs : List Step) (os : List Outcome) (t : Machine E) → IsSound (counts s) →
      Run calls s xs os t → s.control.closed ≡ true → StaysSilent s os t
  run-stays_silent s xs os t sound run closed =
      let gone = gone_is s.control.worker (sym sound.awaited.gone ∙ closed) in
      let rest = gone_run s xs os t gone closed run in
      let ends = run-sound calls s xs os t sound run in
      record {
        exporter = rest.keeps.exporter;
        hand = rest.keeps.hand;
        waiting = rest.keeps.waiting;
        closed = ends.awaited.gone ∙ ap is_gone rest.gone;
        no_batch = rest.no_batch;
      }

  -- a step that completes a shutdown changes no telling, leaves the worker gone and the machine closed, and says how
  -- many spans wait
  pub closes : (s : Machine E) (x : Step) (o : Outcome) (k : ℕ) (t : Machine E) → o ≡ outcome.ShutDown k →
      IsStep calls s x o t → (calls.told t.exporter ≡ calls.told s.exporter) × (t.control.worker ≡ worker.Gone)
      × (t.control.closed ≡ true) × (length t.waiting ≡ k)
  closes s x o k t e took =
      let row : IsPermitted (counts s) x (outcome.ShutDown k) (counts t) = rw e at took.permitted in
      let is : x ≡ step.Close = shut_down-closes (counts s) x k (counts t) row in
      let moved : MovesSpans calls s step.Close (outcome.ShutDown k) t = rw (e, is) at took.moved in
      let closed : IsPermitted (counts s) step.Close (outcome.ShutDown k) (counts t) = rw is at row in (
        moved.told,
        ap (λ c. c.control.worker) closed.3,
        ap (λ c. c.control.closed) closed.3,
        ap length moved.waiting ∙ sym closed.4,
      )

  -- nothing follows a shutdown in a run
  pub run-silent : (s : Machine E) (xs : List Step) (os : List Outcome) (t : Machine E) → Run calls s xs os t →
      SilentAfterShutdown calls s xs os t
  run-silent s [] [] t run n k e =
      absurd (let os : List Outcome = [] in let none : slice_get os n ≡ None = refl in cc)
  run-silent s (x ∷ xs) (o ∷ os) t run zero k e =
      let is : o ≡ outcome.ShutDown k = cc in
      let closed = closes s x o k run.0 is run.1 in
      let rest = gone_run run.0 xs os t closed.1 closed.2 run.2 in
      record {
        before = s;
        shut = run.0;
        up_to = refl;
        closes = (run.0, run.1, refl);
        after = run.2;
        told = closed.0;
        exporter = rest.keeps.exporter;
        hand = rest.keeps.hand;
        waiting = rest.keeps.waiting;
        no_batch = rest.no_batch;
      }
  run-silent s (x ∷ xs) (o ∷ os) t run (suc n) k e =
      let later = run-silent run.0 xs os t run.2 n k e in
      record {
        before = later.before;
        shut = later.shut;
        up_to = (run.0, run.1, later.up_to);
        closes = later.closes;
        after = later.after;
        told = later.told;
        exporter = later.exporter;
        hand = later.hand;
        waiting = later.waiting;
        no_batch = later.no_batch;
      }
  run-silent s [] (o ∷ os) t run n k e = absurd run
  run-silent s (x ∷ xs) [] t run n k e = absurd run
