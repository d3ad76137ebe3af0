-- A filter in front of an exporter: which spans of which batches reach the exporter inside.
use Rattle.std.specs.Prelude.{◌≡◌, Bool, List, [], ◌∷◌, ◌++◌, Option, Result, Ok, filter}
use Rattle.std.specs.List.{flat_map}
use Rattle.std.specs.Option.{option_map}
use Rattle.otel_export.specs.PlainSpanData.{PlainSpanData}
use Rattle.otel_export.specs.Telling.{Tells}
use Rattle.otel_export.specs.declared.error.OTelSdkError.{OTelSdkError}
use Rattle.otel_export.specs.declared.trace.export.SpanExporter.{Ghosts}

-- a batch, where it has spans
abbrev pub unless_empty : List PlainSpanData → List (List PlainSpanData)
unless_empty [] = []
unless_empty (span ∷ spans) = (span ∷ spans) ∷ []

-- the parts of batches that are kept, without those that are empty
abbrev pub kept_batches : (PlainSpanData → Bool) → List (List PlainSpanData) → List (List PlainSpanData)
kept_batches keeps batches = flat_map (λ batch. unless_empty (filter keeps batch)) batches

-- the answer to a batch, where it has spans
abbrev pub answer_unless_empty : List PlainSpanData → Result (Unit {0}) OTelSdkError
    → List (Result (Unit {0}) OTelSdkError)
answer_unless_empty [] answer = []
answer_unless_empty (_ ∷ _) answer = answer ∷ []

-- the answers to batches of which something is kept
abbrev pub kept_answers : (PlainSpanData → Bool) → List (List PlainSpanData)
    → List (Result (Unit {0}) OTelSdkError) → List (Result (Unit {0}) OTelSdkError)
kept_answers keeps [] answers = []
kept_answers keeps (batch ∷ batches) [] = []
kept_answers keeps (batch ∷ batches) (answer ∷ answers) =
    answer_unless_empty (filter keeps batch) answer ++ kept_answers keeps batches answers

-- batches were exported one after another, with these answers
abbrev pub ExportsInTurn : {E : Type 0} → (E → List PlainSpanData → Result (Unit {0}) OTelSdkError → E → Type 0) → E
    → List (List PlainSpanData) → List (Result (Unit {0}) OTelSdkError) → E → Type 0
ExportsInTurn gives old [] [] new = new ≡ old
ExportsInTurn gives old [] (_ ∷ _) new = ⊥
ExportsInTurn gives old (_ ∷ _) [] new = ⊥
ExportsInTurn {E} gives old (batch ∷ batches) (answer ∷ answers) new =
    (next : E) × gives old batch answer next × ExportsInTurn gives next batches answers new

-- the exporter inside as it was at first (a list of one) and as it is, the filter, and the batches that were handed over
pub record FilterState (E F : Type 0) : Type 0 where
  pub begun : List E
  pub exporter : E
  pub filter : F
  pub handed : List (List PlainSpanData)

module _ {E : Type 0} (calls : Ghosts E) where
  -- it tells what it was handed, as long as the exporter inside tells
  abbrev pub told_by : {F : Type 0} → FilterState E F → Option (List (List PlainSpanData))
  told_by state = option_map (λ _. state.handed) (calls.told state.exporter)

  -- what the exporter inside tells is what it told at first, and then what is kept of the batches that were handed over
  abbrev pub HandsOn : {F : Type 0} → (F → PlainSpanData → Bool) → FilterState E F → Type 0
  HandsOn keeps state = (first : E) × (state.begun ≡ first ∷ [])
      × Tells (calls.told first) (kept_batches (keeps state.filter) state.handed) (calls.told state.exporter)

  -- an exporter was handed these spans as one batch, or nothing where there are none
  abbrev pub ExportsAny : E → List PlainSpanData → Result (Unit {0}) OTelSdkError → E → Type 0
  ExportsAny old [] answer new = (answer ≡ Ok tt) × (new ≡ old)
  ExportsAny old (span ∷ spans) answer new = calls.export_gives old (span ∷ spans) answer new

  -- what an export does: the exporter inside was handed the spans that are kept, and tells them
  pub record ExportsKept {F : Type 0} (keeps : F → PlainSpanData → Bool) (old : FilterState E F)
      (batch : List PlainSpanData) (answer : Result (Unit {0}) OTelSdkError) (new : FilterState E F)
      : Type 0 where
    pub given : ExportsAny old.exporter (filter (keeps old.filter) batch) answer new.exporter
    pub told :
        Tells (calls.told old.exporter) (unless_empty (filter (keeps old.filter) batch)) (calls.told new.exporter)
    pub rest : new ≡ record old { exporter = new.exporter; handed = old.handed ++ batch ∷ [] }

  -- a call that the exporter inside was handed, and tells nothing new by
  pub record ReachesInside {F : Type 0} (gives : E → E → Type 0) (old new : FilterState E F) : Type 0 where
    pub given : gives old.exporter new.exporter
    pub told : calls.told new.exporter ≡ calls.told old.exporter
    pub rest : new ≡ record old { exporter = new.exporter }
