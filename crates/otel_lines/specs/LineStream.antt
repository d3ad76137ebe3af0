-- A stream of batches in a form.
use Rattle.std.specs.Prelude.{◌≡◌, ◌⊎◌, ℕ, Bool, true, false, List, [], ◌∷◌, Option, Some, None, Result, Ok, Err}
use Rattle.std.specs.Bool.{MatchBool}
use Rattle.std.specs.Io.KnownBytes.{Appends}
use Rattle.otel_resource.specs.Resource.{PlainResource}
use Rattle.otel_export.specs.ExporterCalls.{IsInternalFailure}
use Rattle.otel_export.specs.PlainSpanData.{PlainSpanData}
use Rattle.otel_export.specs.Streams.{AppendsBeginning}
use Rattle.otel_export.specs.declared.error.OTelSdkError.{OTelSdkError}
use Rattle.otel_export.specs.declared.error.OTelSdkError.TheVariants as errors
use Rattle.otel_lines.specs.Form.{Form}

-- its writer, and whether the batch before was cut off
pub record LineStream (W : Type 0) : Type 0 where
  pub writer : W
  pub is_cut : Bool

-- the end of a line, or nothing
abbrev pub line_end_bytes : Option ℕ → List ℕ
line_end_bytes None = []
line_end_bytes (Some end) = end ∷ []

module _ {W : Type 0} (contents : W → Option (List ℕ)) where
  -- a writer was given bytes, by the answer: all of them, or a beginning where it failed, which then was cut off
  abbrev pub Sends : W → List ℕ → Result (Unit {0}) OTelSdkError → W → Bool → Type 0
  Sends old bytes (Ok _) new is_cut = Appends (contents old) (contents new) bytes × (is_cut ≡ false)
  Sends old bytes (Err error) new is_cut =
      IsInternalFailure error × AppendsBeginning (contents old) (contents new) bytes × (is_cut ≡ true)

  -- bytes were sent, or nothing when memory runs out
  abbrev pub WritesBytes : LineStream W → List ℕ → Result (Unit {0}) OTelSdkError → LineStream W → Type 0
  WritesBytes old bytes answer new =
      ((answer ≡ Err errors.OutOfMemory) × (new ≡ old)) ⊎ Sends old.writer bytes answer new.writer new.is_cut

  -- after a batch that was cut off bytes follow the end of its line; where no line has an end nothing is written
  abbrev pub WritesAfterCut : Option ℕ → LineStream W → List ℕ → Result (Unit {0}) OTelSdkError → LineStream W
      → Type 0
  WritesAfterCut (Some end) old bytes answer new = WritesBytes old (end ∷ bytes) answer new
  WritesAfterCut None old bytes (Ok _) new = ⊥
  WritesAfterCut None old bytes (Err error) new = IsInternalFailure error × (new ≡ old)

  -- a batch was written
  abbrev pub WritesBatch : Form → PlainResource → LineStream W → List PlainSpanData
      → Result (Unit {0}) OTelSdkError → LineStream W → Type 0
  WritesBatch form resource old batch answer new =
      MatchBool old.is_cut (WritesAfterCut form.line_end old (form.bytes resource batch) answer new)
      (WritesBytes old (form.bytes resource batch) answer new)
