-- A step of the batch queue from its parts, and that runs by next steps end in a sound machine.
use Rattle.std.proofs.Common.{List, [], ◌∷◌, Option}
use Rattle.otel_export.specs.PlainSpanData.{PlainSpanData}
use Rattle.otel_export.specs.declared.trace.export.SpanExporter.{Ghosts}
use Rattle.otel_batch.specs.MachineState.{Control, Machine, counts}
use Rattle.otel_batch.specs.SoundMachine.{IsSound}
use Rattle.otel_batch.specs.PermittedStep.{IsPermitted}
use Rattle.otel_batch.specs.MovedSpans.{MovesSpans}
use Rattle.otel_batch.specs.MachineRun.{IsStep}
use Rattle.otel_batch.specs.WorkedOff.{GoesBy, OffersSpan, next_of_producer}
use Rattle.otel_batch.specs.declared.machine.step.Outcome.{Outcome}
use Rattle.otel_batch.specs.declared.machine.step.Step.{Step}
use Rattle.otel_batch.proofs.Requests.{permitted-keeps, permitted-goes_on}

module _ {E : Type 0} (calls : Ghosts E) where
  -- a step that is permitted, moves spans as it says, and keeps a sound machine sound
  pub stepped : (s : Machine E) (x : Step) (o : Outcome) (t : Machine E) → IsSound (counts s) →
      IsPermitted (counts s) x o (counts t) → MovesSpans calls s x o t → IsSound (counts t) → IsStep calls s x o t
  stepped s x o t sound permitted moved after = record {
    permitted = permitted;
    moved = moved;
    requests = permitted-keeps (counts s) x o (counts t) permitted sound;
    goes_on = λ next stays. permitted-goes_on (counts s) x o (counts t) permitted next stays;
    sound = after;
  }

-- a run by next steps ends in a sound machine
module _ {E : Type 0} (calls : Ghosts E) where
  pub goes_sound : (next : Control → Option Step) (s : Machine E) (xs : List Step) (os : List Outcome) (t : Machine E) →
      IsSound (counts s) → GoesBy calls next s xs os t → IsSound (counts t)
  goes_sound next s [] [] t sound goes = rw goes sound
  goes_sound next s (x ∷ xs) (o ∷ os) t sound goes = goes_sound next goes.1 xs os t goes.2.sound goes.3
  goes_sound next s [] (o ∷ os) t sound goes = absurd goes
  goes_sound next s (x ∷ xs) [] t sound goes = absurd goes

  pub offers_sound : (s : Machine E) (span : PlainSpanData) (t : Machine E) → OffersSpan calls s span t →
      IsSound (counts t)
  offers_sound s span t put = goes_sound next_of_producer put.holding put.works.steps put.outcomes t
      (rw put.offers.2 put.offers.1.sound) put.works.goes
