-- What a run does to its three streams. Of the bytes of a stream it speaks where the stream tells them.
use Rattle.std.specs.Prelude.{◌≡◌, ◌⊎◌, ℕ, Bool, true, false, List, Option, Some, None, IfSome, codes}
use Rattle.std.specs.Io.KnownBytes.{IsAtEnd}
use Rattle.otel_trace_run.specs.Reasons.{IsFault, IsReasonAt}
use Rattle.otel_trace_run.specs.declared.reason.Reason.{Reason}
use Rattle.otel_trace_run.specs.declared.run_end.RunEnd.{RunEnd}
use Rattle.otel_trace_run.specs.declared.run_end.RunEnd.TheVariants as ends

-- the bytes that an input has left and those that an output and the faults' stream hold, before a run and after it
pub record Streams : Type 0 where
  pub input : Option (List ℕ)
  pub input_after : Option (List ℕ)
  pub output : Option (List ℕ)
  pub output_after : Option (List ℕ)

-- the same, one by one
abbrev pub streams : Option (List ℕ) → Option (List ℕ) → Option (List ℕ) → Option (List ℕ) → Streams
streams input input_after output output_after =
    record { input = input; input_after = input_after; output = output; output_after = output_after }

-- the same of a reader and a writer, before and after, of which these tell the bytes
abbrev pub streams_of : {R W : Type 0} → (R → Option (List ℕ)) → R → R → (W → Option (List ℕ)) → W → W → Streams
streams_of remaining input input_after contents output output_after =
    streams (remaining input) (remaining input_after) (contents output) (contents output_after)

-- all bytes of an input
abbrev pub AreAll : Option (List ℕ) → List ℕ → Type 0
AreAll input bytes = IfSome input (λ all. bytes ≡ all)

-- why line n of an input is bad: where lines are commands there is a reason, which holds of that line; where they are
-- none there is no reason
abbrev pub WhyBad : (are_commands : Bool) → Option (List ℕ) → ℕ → Option Reason → Type 0
WhyBad true input n None = ⊥
WhyBad true input n (Some reason) = (bytes : List ℕ) × AreAll input bytes × IsReasonAt bytes n reason
WhyBad false input n reason = reason ≡ None

-- what is said where there is no span to draw
abbrev pub no_spans_text : List ℕ
no_spans_text = codes "no spans to draw\n"

-- how a run ended: at the input's end, after which the input has nothing, where all was done or there was no span to
-- draw; at its first bad line; or it failed, where only a beginning was done
abbrev pub EndsAs : (are_commands : Bool) → (Option ℕ → Type 0) → (Empty Begun : Type 0) → Streams → RunEnd → Type 0
EndsAs are_commands Whole Empty Begun s ends.Done = Whole None × IsAtEnd s.input_after
EndsAs are_commands Whole Empty Begun s ends.Empty = Empty × IsAtEnd s.input_after
EndsAs are_commands Whole Empty Begun s (ends.BadLine line reason) =
    Whole (Some line) × WhyBad are_commands s.input line reason
EndsAs are_commands Whole Empty Begun s ends.Failed = Begun

-- what is said of that, and with which status: 0 with no fault written, which is the fact Silent, or where Says that
-- there is no span to draw; 2 where Says the text that names the bad line, with its reason where reasons are said; 1
-- where either could not be written, or the run failed
abbrev pub Reports : RunEnd → (says_reasons : Bool) → Type 0 → (List ℕ → Type 0) → ℕ → Type 0
Reports ends.Done says_reasons Silent Says status = (status ≡ 0) × Silent
Reports ends.Empty says_reasons Silent Says status = (status ≡ 1) ⊎ ((status ≡ 0) × Says no_spans_text)
Reports (ends.BadLine line reason) says_reasons Silent Says status =
    (status ≡ 1) ⊎ ((status ≡ 2) × ((text : List ℕ) × IsFault says_reasons line reason text × Says text))
Reports ends.Failed says_reasons Silent Says status = status ≡ 1

-- a bad line was named, and why it is bad where reasons are said
pub record NamesLine (are_commands : Bool) (Whole : Option ℕ → Type 0) (says_reasons : Bool) (Says : List ℕ → Type 0)
    (s : Streams) : Type 0 where
  pub line : ℕ
  pub reason : Option Reason
  pub text : List ℕ
  pub whole : Whole (Some line)
  pub why : WhyBad are_commands s.input line reason
  pub fault : IsFault says_reasons line reason text
  pub says : Says text

-- the same by the exit status
pub record EndsWith (are_commands : Bool) (Whole : Option ℕ → Type 0) (Empty Begun Silent : Type 0)
    (says_reasons : Bool) (Says : List ℕ → Type 0) (s : Streams) (status : ℕ) : Type 0 where
  pub done : status ≡ 0 → IsAtEnd s.input_after × ((Whole None × Silent) ⊎ (Empty × Says no_spans_text))
  pub refused : status ≡ 2 → NamesLine are_commands Whole says_reasons Says s
  pub failed : status ≡ 1 → Begun
