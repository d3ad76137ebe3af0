-- What the program does with its streams, by its mode.
use Rattle.std.proofs.Common.{◌≡◌, ℕ, ◌≤◌, Bool, List, Option, Some, None, inl, inr, subst, arith, false, true}
use Rattle.otel_sampling.specs.declared.trace.sampler.SamplerOf.{SamplerOf}
use Rattle.otel_trace_lines.specs.ReplyForm.{reply_lines, reply_lines_in}
use Rattle.otel_trace_lines.specs.declared.dialect.Dialect.{Dialect}
use Rattle.otel_trace_lines.specs.declared.dialect.Dialect.TheVariants as dialects
use Rattle.otel_pipeline.specs.Provider.{ProviderState}
use Rattle.otel_trace_run.specs.Arguments.{PlainMode, otlp, picture, steps, trace}
use Rattle.otel_trace_run.specs.PictureRuns.{HasNoSpan, HasSpan, Painting}
use Rattle.otel_trace_run.specs.Program.{BeginsAsked, GivesBeginning, GivesEmpty, GivesWhole, IsProviderOf, MemoryProcessor, Runs, RunsTo, TracesAsked, reads_commands, says_reasons}
use Rattle.otel_trace_run.specs.TraceRuns.{TracesBegun, TracesWhole}
use Rattle.otel_trace_run.proofs.Drawing.{drawing_begun}
use Rattle.otel_trace_run.proofs.Exporting.{exporting_begun}
use Rattle.otel_trace_run.proofs.StepStream.{all_begun as steps_begun}
use Rattle.otel_trace_run.proofs.TraceEnds.{whole_begun}
use Rattle.otel_trace_session.specs.Calls.{Calls}
use Rattle.otel_trace_steps.specs.StepAnswers.{machine_of}
use Rattle.otel_trace_run.specs.declared.mode.Asked.{Asked}
use Rattle.otel_trace_run.specs.declared.picture.PictureForm.{PictureForm}
use Rattle.otel_trace_run.specs.Streams.{EndsAs, EndsWith, Reports, Streams}
use Rattle.otel_trace_run.specs.declared.run_end.RunEnd.{RunEnd}
use Rattle.otel_trace_run.specs.declared.run_end.RunEnd.TheVariants as ends

-- how a run ended, by its status
ends_with : (are_commands : Bool) (Whole : Option ℕ → Type 0) (Empty Begun Silent : Type 0) (says_reasons : Bool) (Says : List ℕ → Type 0) (s : Streams) (end : RunEnd) (status : ℕ) → ((bad_line : Option ℕ) → Whole bad_line → Begun)
    → (Empty → Begun) → EndsAs are_commands Whole Empty Begun s end → Reports end says_reasons Silent Says status
    → EndsWith are_commands Whole Empty Begun Silent says_reasons Says s status
ends_with are_commands Whole Empty Begun Silent says_reasons Says s ends.Done status begins empty h r = record {
  done = λ _. (h.1, inl (h.0, r.1));
  refused = λ e. absurd (omega (arith, e, r.0));
  failed = λ e. absurd (omega (arith, e, r.0));
}
ends_with are_commands Whole Empty Begun Silent says_reasons Says s ends.Empty status begins empty h (inl failed) = record {
  done = λ e. absurd (omega (arith, e, failed));
  refused = λ e. absurd (omega (arith, e, failed));
  failed = λ _. empty h.0;
}
ends_with are_commands Whole Empty Begun Silent says_reasons Says s ends.Empty status begins empty h (inr said) = record {
  done = λ _. (h.1, inr (h.0, said.1));
  refused = λ e. absurd (omega (arith, e, said.0));
  failed = λ e. absurd (omega (arith, e, said.0));
}
ends_with are_commands Whole Empty Begun Silent says_reasons Says s (ends.BadLine line reason) status begins empty h (inl failed) = record {
  done = λ e. absurd (omega (arith, e, failed));
  refused = λ e. absurd (omega (arith, e, failed));
  failed = λ _. begins (Some line) h.0;
}
ends_with are_commands Whole Empty Begun Silent says_reasons Says s (ends.BadLine line reason) status begins empty h (inr refused) = record {
  done = λ e. absurd (omega (arith, e, refused.0));
  refused = λ _. record {
    line = line;
    reason = reason;
    text = refused.1.0;
    whole = h.0;
    why = h.1;
    fault = refused.1.1;
    says = refused.1.2;
  };
  failed = λ e. absurd (omega (arith, e, refused.0));
}
ends_with are_commands Whole Empty Begun Silent says_reasons Says s ends.Failed status begins empty h failed = record {
  done = λ e. absurd (omega (arith, e, failed));
  refused = λ e. absurd (omega (arith, e, failed));
  failed = λ _. h;
}

-- a status is at most 2
pub status_small : (end : RunEnd) (says_reasons : Bool) (Silent : Type 0) (Says : List ℕ → Type 0) (status : ℕ) → Reports end says_reasons Silent Says status → status ≤ 2
status_small ends.Done says_reasons Silent Says status r = omega (arith, r.0)
status_small ends.Empty says_reasons Silent Says status (inl failed) = omega (arith, failed)
status_small ends.Empty says_reasons Silent Says status (inr said) = omega (arith, said.0)
status_small (ends.BadLine line reason) says_reasons Silent Says status (inl failed) = omega (arith, failed)
status_small (ends.BadLine line reason) says_reasons Silent Says status (inr refused) = omega (arith, refused.0)
status_small ends.Failed says_reasons Silent Says status failed = omega (arith, failed)

module _ {C D E : Type 0} (calls : Calls (MemoryProcessor C D) (SamplerOf E) (List ℕ)) where
  -- what is traced under the provider that is asked for
  traces_plainly : (asked : Asked) (provider : ProviderState (MemoryProcessor C D) (SamplerOf E) (List ℕ)) (s : Streams) (end : RunEnd)
      → IsProviderOf false asked provider
      → EndsAs true (TracesWhole calls reply_lines provider s) ⊥ (TracesBegun calls reply_lines provider s) s end
      → EndsAs true (TracesAsked calls asked s) ⊥ (BeginsAsked calls asked s) s end
  traces_plainly asked provider s ends.Done is traces = ((provider, is, traces.0), traces.1)
  traces_plainly asked provider s ends.Empty is traces = absurd traces.0
  traces_plainly asked provider s (ends.BadLine line reason) is traces = ((provider, is, traces.0), traces.1)
  traces_plainly asked provider s ends.Failed is traces = inr (provider, is, traces)

  pub traces_asked : (asked : Asked) (provider : ProviderState (MemoryProcessor C D) (SamplerOf E) (List ℕ)) (s : Streams) (end : RunEnd) (dialect : Dialect)
      → dialect ≡ dialects.Plain → IsProviderOf false asked provider
      → EndsAs true (TracesWhole calls (reply_lines_in dialect) provider s) ⊥ (TracesBegun calls (reply_lines_in dialect) provider s) s end
      → EndsAs true (TracesAsked calls asked s) ⊥ (BeginsAsked calls asked s) s end
  traces_asked asked provider s end dialect plain is traces = traces_plainly asked provider s end is
      (subst (λ (d : Dialect). EndsAs true (TracesWhole calls (reply_lines_in d) provider s) ⊥ (TracesBegun calls (reply_lines_in d) provider s) s end) plain traces)

  -- what such a provider's session wrote whole is a beginning
  asked_begun : (asked : Asked) (s : Streams) (bad_line : Option ℕ) → TracesAsked calls asked s bad_line → BeginsAsked calls asked s
  asked_begun asked s bad_line h = inr (h.0, h.1, whole_begun calls reply_lines h.0 s bad_line h.2)

module _ {C D E : Type 0} (calls : Calls (MemoryProcessor C D) (SamplerOf E) (List ℕ)) (paints : PictureForm → Painting) where
  -- what a mode gave whole is a beginning
  mode_begun : (mode : PlainMode) (s : Streams) (bad_line : Option ℕ) → GivesWhole calls paints mode s bad_line → GivesBeginning calls paints mode s
  mode_begun (trace asked) s bad_line h = asked_begun calls asked s bad_line h
  mode_begun (steps sizes) s bad_line h = steps_begun (machine_of sizes) s bad_line h
  mode_begun (otlp export given) s bad_line h = exporting_begun calls export given s bad_line h
  mode_begun (picture asked form) s bad_line h = drawing_begun calls (paints form) (HasSpan bad_line) asked s bad_line h

  empty_begun : (mode : PlainMode) (s : Streams) → GivesEmpty calls paints mode s → GivesBeginning calls paints mode s
  empty_begun (trace asked) s h = absurd h
  empty_begun (steps sizes) s h = absurd h
  empty_begun (otlp export given) s h = absurd h
  empty_begun (picture asked form) s h = drawing_begun calls (paints form) HasNoSpan asked s None h

  -- a run of a mode is one of the same mode
  pub runs_same : (mode found : PlainMode) (s : Streams) (end : RunEnd) → found ≡ mode → RunsTo calls paints found s end
      → RunsTo calls paints mode s end
  runs_same mode found s end same ran = subst (λ (m : PlainMode). RunsTo calls paints m s end) same ran

  -- a run of a mode, by its status
  pub runs_by_status : (mode : PlainMode) (s : Streams) (end : RunEnd) (says : Bool) (Silent : Type 0) (Says : List ℕ → Type 0)
      (status : ℕ) → RunsTo calls paints mode s end → says ≡ says_reasons mode
      → Reports end says Silent Says status → Runs calls paints mode s Silent Says status
  runs_by_status mode s end says Silent Says status ran same reports =
      ends_with (reads_commands mode) (GivesWhole calls paints mode s) (GivesEmpty calls paints mode s) (GivesBeginning calls paints mode s) Silent (says_reasons mode) Says s end status (mode_begun mode s) (empty_begun mode s) ran
      (subst (λ (b : Bool). Reports end b Silent Says status) same reports)
