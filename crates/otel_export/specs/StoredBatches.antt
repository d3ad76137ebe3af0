use Rattle.std.specs.Prelude.{◌≡◌, ℕ, zero, suc, ◌+◌, ◌-◌, ◌^◌, List, [], ◌∷◌, ◌++◌, Option, Some, None, Result, MatchResult, length, min, sum_by}
use Rattle.otel_export.specs.declared.error.OTelSdkError.{OTelSdkError}
use Rattle.otel_export.specs.declared.error.OTelSdkError.TheVariants as errors
use Rattle.otel_export.specs.PlainSpanData.{PlainSpanData}

-- the batches that were taken, those after them, which are kept, how many others were handed over, with how many spans,
-- and how many spans may be kept at most
pub record StoredBatches : Type 0 where
  pub taken : List (List PlainSpanData)
  pub batches : List (List PlainSpanData)
  pub lost : ℕ
  pub lost_spans : ℕ
  pub max_spans : ℕ

-- none of each, and room for all
abbrev pub none_stored : StoredBatches
none_stored = record { taken = []; batches = []; lost = 0; lost_spans = 0; max_spans = 2 ^ 64 - 1 }

-- how many spans are kept
abbrev pub spans_kept : StoredBatches → ℕ
spans_kept stored = sum_by length stored.batches

-- all that are kept are taken
abbrev pub all_taken : StoredBatches → StoredBatches
all_taken stored = record stored { taken = stored.taken ++ stored.batches; batches = [] }

-- all batches that an exporter stored: those that were taken, and those that it keeps
abbrev pub all_stored : StoredBatches → List (List PlainSpanData)
all_stored stored = stored.taken ++ stored.batches

-- a count that stops at the greatest u64, after so many more
abbrev pub counted_up : ℕ → ℕ → ℕ
counted_up before more = min (before + more) (2 ^ 64 - 1)

-- and after one more
abbrev pub one_more : ℕ → ℕ
one_more before = counted_up before 1

-- the batches are told until one was lost
abbrev pub told_unless_lost : ℕ → List (List PlainSpanData) → Option (List (List PlainSpanData))
told_unless_lost zero batches = Some batches
told_unless_lost (suc _) batches = None

-- what is told: the batches that were taken and those that are kept
abbrev pub stored_told : StoredBatches → Option (List (List PlainSpanData))
stored_told stored = told_unless_lost stored.lost (stored.taken ++ stored.batches)

-- an export into memory: Ok appends the batch; when memory or room runs out the batches stay, and one more is lost
abbrev pub StoresBatch : StoredBatches → List PlainSpanData → Result (Unit {0}) OTelSdkError → StoredBatches → Type 0
StoresBatch old batch answer new = MatchResult answer
    (λ _. new ≡ record old { batches = old.batches ++ batch ∷ [] })
    (λ e. (e ≡ errors.OutOfMemory) × (new ≡ record old
    { lost = one_more old.lost; lost_spans = counted_up old.lost_spans (length batch) }))
