-- What each call of an exporter of lines does to the stream: it goes on holding the bytes of the batches told.
use Rattle.std.proofs.Common.{◌≡◌, ◌∙◌, ap, sym, subst, refl, ℕ, Bool, true, false, List, [], ◌∷◌, ◌++◌, Option, Some, None, Result, Ok, Err}
use Rattle.std.proofs.Common.{MatchBool, inl, inr, append-nil}
use Rattle.std.proofs.KnownBytes.{Appends-nil, Appends-trans}
use Rattle.std.proofs.lemmas.List.Concat.{flat_map-append}
use Rattle.std.specs.Io.KnownBytes.{Appends}
use Rattle.otel_resource.specs.Resource.{PlainResource}
use Rattle.otel_export.specs.PlainSpanData.{PlainSpanData}
use Rattle.otel_export.specs.Telling.{and_then_told}
use Rattle.otel_export.specs.declared.error.OTelSdkError.{OTelSdkError}
use Rattle.otel_export.specs.declared.error.OTelSdkError.TheVariants as errors
use Rattle.otel_lines.specs.Form.{Form}
use Rattle.otel_lines.specs.LineExporter.{Exports, GoesUnder, HoldsBatches, LinedBatch, Shuts, StreamExporter, WritesOf}
use Rattle.otel_lines.specs.LineExporter.{lines_in, new_exporter, written_after}
use Rattle.otel_lines.specs.LineStream.{LineStream, WritesAfterCut, WritesBatch, WritesBytes}

-- an answer is an error or Ok
not_ok : {E : Type 0} (e : E) → ◌≡◌ {A = Result (Unit {0}) E} (Ok tt) (Err e) → ⊥
not_ok e h = cc

module _ {W : Type 0} (form : Form) (contents : W → Option (List ℕ)) where
  -- a batch was sent after others
  held_on : (begun : List W) (old new : LineStream W) (resource : PlainResource) (batch : List PlainSpanData) (lined : List LinedBatch)
      → HoldsBatches form contents begun old (Some lined)
      → Appends (contents old.writer) (contents new.writer) (form.bytes resource batch) × (new.is_cut ≡ false)
      → HoldsBatches form contents begun new (Some (lined ++ (record { resource = resource; batch = batch }) ∷ []))
  held_on begun old new resource batch lined h sent =
      let line : LinedBatch = record { resource = resource; batch = batch } in
      let lines : lines_in form (lined ++ line ∷ []) ≡ lines_in form lined ++ form.bytes resource batch =
      flat_map-append (λ (l : LinedBatch). form.bytes l.resource l.batch) lined (line ∷ [])
      ∙ ap (λ (l : List ℕ). lines_in form lined ++ l) (append-nil (form.bytes resource batch)) in (
        h.0,
        h.1,
        sent.1,
        subst (λ (l : List ℕ). Appends (contents h.0) (contents new.writer) l) (sym lines)
            (Appends-trans (contents h.0) (contents old.writer) (contents new.writer) (lines_in form lined) (form.bytes resource batch) h.3 sent.0),
      )

  -- what was sent to a stream that was not cut
  bytes_sent : (old new : LineStream W) (bytes : List ℕ) → WritesBytes contents old bytes (Ok tt) new
      → Appends (contents old.writer) (contents new.writer) bytes × (new.is_cut ≡ false)
  bytes_sent old new bytes (inl none) = absurd (not_ok errors.OutOfMemory none.0)
  bytes_sent old new bytes (inr sent) = sent

  uncut_sent : (old new : LineStream W) (resource : PlainResource) (batch : List PlainSpanData) → old.is_cut ≡ false
      → WritesBatch contents form resource old batch (Ok tt) new
      → Appends (contents old.writer) (contents new.writer) (form.bytes resource batch) × (new.is_cut ≡ false)
  uncut_sent old new resource batch uncut wrote =
      bytes_sent old new (form.bytes resource batch)
      (subst (λ (cut : Bool). MatchBool cut (WritesAfterCut contents form.line_end old (form.bytes resource batch) (Ok tt) new)
      (WritesBytes contents old (form.bytes resource batch) (Ok tt) new)) uncut wrote)

  sent_holds : (begun : List W) (old new : LineStream W) (resource : PlainResource) (batch : List PlainSpanData) (before : Option (List LinedBatch))
      → HoldsBatches form contents begun old before → WritesBatch contents form resource old batch (Ok tt) new
      → HoldsBatches form contents begun new (and_then_told before ((record { resource = resource; batch = batch }) ∷ []))
  sent_holds begun old new resource batch None h sent = tt
  sent_holds begun old new resource batch (Some lined) h sent =
      held_on begun old new resource batch lined h (uncut_sent old new resource batch h.2 sent)

  written_holds : (begun : List W) (old new : LineStream W) (resource : Option PlainResource) (batch : List PlainSpanData) (answer : Result (Unit {0}) OTelSdkError) (before : Option (List LinedBatch))
      → HoldsBatches form contents begun old before → WritesOf form contents resource old batch answer new
      → HoldsBatches form contents begun new (written_after resource batch answer before)
  written_holds begun old new None batch answer before h wrote = tt
  written_holds begun old new (Some resource) batch (Err e) before h wrote = tt
  written_holds begun old new (Some resource) batch (Ok _) before h wrote = sent_holds begun old new resource batch before h wrote

  batch_holds : (is_shut : Bool) (begun : List W) (old new : LineStream W) (resource : Option PlainResource) (batch : List PlainSpanData) (answer : Result (Unit {0}) OTelSdkError)
      (before : Option (List LinedBatch)) → HoldsBatches form contents begun old before
      → MatchBool is_shut ((answer ≡ Err errors.AlreadyShutdown) × (new ≡ old)) (WritesOf form contents resource old batch answer new)
      → HoldsBatches form contents begun new (written_after resource batch answer before)
  batch_holds false begun old new resource batch answer before h wrote = written_holds begun old new resource batch answer before h wrote
  batch_holds true begun old new None batch answer before h wrote = tt
  batch_holds true begun old new (Some resource) batch (Err e) before h wrote = tt
  batch_holds true begun old new (Some resource) batch (Ok _) before h wrote = absurd (not_ok errors.AlreadyShutdown wrote.0)

  -- what an exporter's stream holds
  abbrev pub Holds : StreamExporter W → Type 0
  Holds e = HoldsBatches form contents e.begun e.stream e.written

  -- from one exporter to another its stream began with the same, and goes on holding the bytes
  abbrev pub Carries : StreamExporter W → StreamExporter W → Type 0
  Carries e f = (f.begun ≡ e.begun) × (Holds e → Holds f)

  pub carries_same : (e f made : StreamExporter W) → f ≡ made → Carries e made → Carries e f
  carries_same e f made same h = subst (λ (x : StreamExporter W). Carries e x) (sym same) h

  pub export_carries : (e : StreamExporter W) (batch : List PlainSpanData) (answer : Result (Unit {0}) OTelSdkError) (f : StreamExporter W)
      → Exports form contents e batch answer f → Carries e f
  export_carries e batch answer f w =
      carries_same e f (record e { stream = f.stream; written = f.written }) w.rest (
        refl,
        λ h.
            subst (λ (x : Option (List LinedBatch)). HoldsBatches form contents e.begun f.stream x) (sym w.written)
            (batch_holds e.is_shut e.begun e.stream f.stream e.resource batch answer e.written h w.stream),
      )

  pub shutdown_carries : (e : StreamExporter W) (answer : Result (Unit {0}) OTelSdkError) (f : StreamExporter W) → Shuts e answer f → Carries e f
  shutdown_carries e answer f h = carries_same e f (record e { is_shut = true }) h.1 (refl, λ k. k)

  pub resource_carries : (e : StreamExporter W) (resource : PlainResource) (f : StreamExporter W) → GoesUnder e resource f → Carries e f
  resource_carries e resource f (inl h) = carries_same e f (record e { resource = Some resource }) h (refl, λ k. k)
  resource_carries e resource f (inr h) = carries_same e f (record e { resource = None }) h (refl, λ k. k)

  pub new_holds : (writer : W) (resource : PlainResource) → Holds (new_exporter writer resource)
  new_holds writer resource = (writer, refl, refl, Appends-nil (contents writer))
