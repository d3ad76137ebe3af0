-- The texts that answer the steps of a batch queue.
use Rattle.std.specs.Prelude.{ℕ, ◌-◌, Bool, true, false, List, [], ◌∷◌, ◌++◌, length, slice_get, Ok, Err, Option, Some, None, codes}
use Rattle.std.specs.List.{flat_map}
use Rattle.std.specs.Fmt.{decimal}
use Rattle.otel_export.specs.ErrorText.{error_text}
use Rattle.otel_export.specs.PlainSpanData.{PlainSpanData}
use Rattle.otel_export.specs.StoredBatches.{StoredBatches}
use Rattle.otel_batch.specs.MachineState.{Machine}
use Rattle.otel_batch.specs.declared.machine.step.Outcome.{Outcome}
use Rattle.otel_batch.specs.declared.machine.step.Outcome.TheVariants as outcomes
use Rattle.otel_console.specs.SpanText.{listed, spaced}

-- the names of spans, in brackets
abbrev pub names_text : List PlainSpanData → List ℕ
names_text = listed (λ span. span.name)

-- the name of a span, if there is one
abbrev pub name_of : Option PlainSpanData → List ℕ
name_of None = []
name_of (Some span) = span.name

-- the name of the span that was pulled, which is the last one in hand
abbrev pub pulled_name : List PlainSpanData → List ℕ
pulled_name hand = name_of (slice_get hand (length hand - 1))

-- what answers a step, where these spans are in hand after it
abbrev pub outcome_text : List PlainSpanData → Outcome → List ℕ
outcome_text hand outcomes.Skipped = codes "skipped"
outcome_text hand (outcomes.Counted n) = codes "counted " ++ decimal n
outcome_text hand outcomes.Accepted = codes "accepted"
outcome_text hand outcomes.Full = codes "full"
outcome_text hand outcomes.Closed = codes "closed"
outcome_text hand outcomes.Undone = codes "undone"
outcome_text hand outcomes.AlreadyAsked = codes "already asked"
outcome_text hand outcomes.MayPost = codes "may post"
outcome_text hand outcomes.Posted = codes "posted"
outcome_text hand outcomes.ResetDone = codes "reset"
outcome_text hand outcomes.Requested = codes "requested"
outcome_text hand (outcomes.Collected (Ok _)) = codes "collected ok"
outcome_text hand (outcomes.Collected (Err error)) = codes "collected " ++ error_text error
outcome_text hand outcomes.Nothing = codes "nothing"
outcome_text hand outcomes.TookExport = codes "took export"
outcome_text hand (outcomes.TookFlush p) = codes "took flush " ++ decimal p
outcome_text hand (outcomes.TookShutdown p) = codes "took shutdown " ++ decimal p
outcome_text hand outcomes.TookResource = codes "took resource"
outcome_text hand outcomes.Ticked = codes "ticked"
outcome_text hand outcomes.Cleared = codes "cleared"
outcome_text hand (outcomes.Loaded target) = codes "loaded " ++ decimal target
outcome_text hand outcomes.Empty = codes "empty"
outcome_text hand outcomes.Pulled = codes "pulled " ++ pulled_name hand
outcome_text hand outcomes.NoMemory = codes "no memory"
outcome_text hand (outcomes.HandedOver count _) = codes "handed over " ++ decimal count
outcome_text hand outcomes.Subtracted = codes "subtracted"
outcome_text hand (outcomes.Finished None) = codes "finished"
outcome_text hand (outcomes.Finished (Some error)) = codes "finished " ++ error_text error
outcome_text hand (outcomes.ShutDown count) = codes "shut down " ++ decimal count
outcome_text hand outcomes.NotEnabled = codes "not enabled"

-- the batches that an exporter kept, each after a space, or a dash
abbrev pub told_text : List (List PlainSpanData) → List ℕ
told_text [] = codes " -"
told_text (batch ∷ more) = flat_map (λ spans. 32 ∷ names_text spans) (batch ∷ more)

-- whether a machine is shut down
abbrev pub open_text : Bool → List ℕ
open_text true = codes "closed"
open_text false = codes "open"

-- what a machine counts, and whether it is shut down
abbrev pub counts_text : Machine StoredBatches → List ℕ
counts_text m =
    spaced (codes "counter" ∷ decimal m.control.counter ∷ codes "dropped" ∷ decimal m.control.dropped
    ∷ open_text m.control.closed ∷ [])

-- what answers the question for a machine's state
abbrev pub state_text : Machine StoredBatches → List ℕ
state_text m = spaced (codes "waiting" ∷ names_text m.waiting ∷ codes "hand" ∷ names_text m.hand
    ∷ (codes "told" ++ told_text m.exporter.batches) ∷ counts_text m ∷ [])
