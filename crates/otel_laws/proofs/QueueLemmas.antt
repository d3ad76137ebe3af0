-- Along a run of the batch queue the stream of its exporter goes on holding the lines of the batches told.
use Rattle.std.proofs.Common.{◌≡◌, ◌∙◌, ap, sym, subst, refl, ℕ, List, [], ◌∷◌, ◌++◌, Option, Some}
use Rattle.std.specs.Option.{option_map}
use Rattle.std.specs.Io.KnownBytes.{Appends}
use Rattle.otel_export.specs.PlainSpanData.{PlainSpanData, spans_in}
use Rattle.otel_export.specs.Telling.{Tells}
use Rattle.otel_export.specs.declared.trace.export.SpanExporter.{Ghosts}
use Rattle.otel_batch.specs.MachineState.{Machine}
use Rattle.otel_batch.specs.MachineRun.{Run}
use Rattle.otel_batch.specs.MovedSpans.{MovesSpans}
use Rattle.otel_batch.specs.declared.machine.step.Outcome.{Outcome}
use Rattle.otel_batch.specs.declared.machine.step.Outcome.TheVariants as outcome
use Rattle.otel_batch.specs.declared.machine.step.Step.{Step}
use Rattle.otel_batch.specs.declared.machine.step.Step.TheVariants as step
use Rattle.otel_batch.proofs.Conserving.{run-loses_none}
use Rattle.otel_lines.specs.Form.{Form}
use Rattle.otel_lines.specs.LineExporter.{Exports, GoesUnder, HoldsBatches, LinedBatch, Shuts, StreamExporter, batches_in}
use Rattle.otel_lines.specs.LineExporter.{lines_in, told_by}
use Rattle.otel_laws.specs.QueueLines.{LinesHoldSpans, RanOverLines}
use Rattle.otel_lines.proofs.LineLemmas.{Carries, Holds, carries_same, export_carries, new_holds, resource_carries, shutdown_carries}

-- where a telling began with nothing, all that it tells is what was handed over
told_from_none : (batches told : List (List PlainSpanData)) (before after : Option (List (List PlainSpanData)))
    → before ≡ Some [] → after ≡ Some told → Tells before batches after → batches ≡ told
told_from_none batches told before after none some tells =
    let here : Tells (Some []) batches (Some told) =
    subst (λ (x : Option (List (List PlainSpanData))). Tells (Some []) batches x) some
    (subst (λ (x : Option (List (List PlainSpanData))). Tells x batches after) none tells) in cc

module _ {W : Type 0} (form : Form) (contents : W → Option (List ℕ)) (calls : Ghosts (StreamExporter W))
    (exports : (e : StreamExporter W) (batch : List PlainSpanData) (answer : _) (f : StreamExporter W) → calls.export_gives e batch answer f → Exports form contents e batch answer f)
    (shuts : (e : StreamExporter W) (timeout : ℕ) (answer : _) (f : StreamExporter W) → calls.shutdown_gives e timeout answer f → Shuts e answer f)
    (passes : (e : StreamExporter W) (resource : _) (f : StreamExporter W) → calls.resource_gives e resource f → GoesUnder e resource f) where
  same : (s t : Machine (StreamExporter W)) → t.exporter ≡ s.exporter → Carries form contents s.exporter t.exporter
  same s t e = carries_same form contents s.exporter t.exporter s.exporter e (refl, λ h. h)

  moved_carries : (s : Machine (StreamExporter W)) (x : Step) (o : Outcome) (t : Machine (StreamExporter W)) → MovesSpans calls s x o t → Carries form contents s.exporter t.exporter
  moved_carries s (step.Send p) outcome.Accepted t m = same s t m.exporter
  moved_carries s step.Pull outcome.Pulled t m = same s t m.exporter
  moved_carries s step.HandOver (outcome.HandedOver k e) t m = export_carries form contents s.exporter s.hand m.answer t.exporter (exports s.exporter s.hand m.answer t.exporter m.gives)
  moved_carries s step.Take outcome.TookResource t m = resource_carries form contents s.exporter _ t.exporter (passes s.exporter _ t.exporter m.gives)
  moved_carries s step.Close (outcome.ShutDown n) t m = shutdown_carries form contents s.exporter m.answer t.exporter (shuts s.exporter 5_000_000_000 m.answer t.exporter m.gives)
  moved_carries s _ _ t m = same s t m.exporter

  run_carries : (s : Machine (StreamExporter W)) (xs : List Step) (os : List Outcome) (t : Machine (StreamExporter W)) → Run calls s xs os t → Carries form contents s.exporter t.exporter
  run_carries s [] [] t run = same s t (ap (λ (m : Machine (StreamExporter W)). m.exporter) run)
  run_carries s (x ∷ xs) (o ∷ os) t run =
      let first = moved_carries s x o run.0 run.1.moved in
      let rest = run_carries run.0 xs os t run.2 in
      (rest.0 ∙ first.0, λ h. rest.1 (first.1 h))
  run_carries s [] (o ∷ os) t run = absurd run
  run_carries s (x ∷ xs) [] t run = absurd run

  -- what the stream holds, where its exporter began over this writer
  held_since : (first : W) (e : StreamExporter W) (lined : List LinedBatch) → e.begun ≡ first ∷ [] → e.written ≡ Some lined → Holds form contents e
      → Appends (contents first) (contents e.stream.writer) (lines_in form lined)
  held_since first e lined begun written holds =
      let here : HoldsBatches form contents (first ∷ []) e.stream (Some lined) =
      subst (λ (x : Option (List LinedBatch)). HoldsBatches form contents (first ∷ []) e.stream x) written
      (subst (λ (x : List W). HoldsBatches form contents x e.stream e.written) begun holds) in
      let one : first ≡ here.0 = cc in
      subst (λ (x : W). Appends (contents x) (contents e.stream.writer) (lines_in form lined)) (sym one) here.3

  pub lines_hold : ((e : StreamExporter W) → calls.told e ≡ told_by e) → (first : W) (xs : List Step) (os : List Outcome) (t : Machine (StreamExporter W)) (lined : List LinedBatch)
      → RanOverLines calls first xs os t lined → LinesHoldSpans form contents first xs os t lined
  lines_hold told first xs os t lined h =
      let whole = run-loses_none calls h.begun xs os t h.is_first h.ran in
      let carried = run_carries h.begun xs os t h.ran in
      let began = subst (Holds form contents) (sym h.is_new) (new_holds form contents first h.resource) in
      let all : whole.batches ≡ batches_in lined =
      told_from_none whole.batches (batches_in lined) (calls.told h.begun.exporter) (calls.told t.exporter)
      (told h.begun.exporter ∙ ap told_by h.is_new) (told t.exporter ∙ ap (option_map batches_in) h.written) whole.told in record {
        conserved = whole.conserved ∙ ap (λ (l : List (List PlainSpanData)). spans_in l ++ (t.hand ++ t.waiting)) all;
        lines = held_since first t.exporter lined (carried.0 ∙ ap (λ (e : StreamExporter W). e.begun) h.is_new) h.written (carried.1 began);
      }
