-- What the arguments of the program ask for, and what is done where it is asked for.
use Rattle.std.specs.Prelude.{◌≡◌, ◌⊎◌, ◌≤◌, ℕ, List, [], ◌∷◌, Option, Some, None, codes, if◌then◌else◌}
use Rattle.std.specs.Io.KnownBytes.{Appends}
use Rattle.std.specs.Str.{bytes_eq}
use Rattle.otel_sampling.specs.declared.trace.sampler.SamplerOf.{SamplerOf}
use Rattle.otel_trace_session.specs.Calls.{Calls}
use Rattle.otel_trace_run.specs.Arguments.{PlainMode, mode_in, otlp, picture, plain_mode, steps, trace}
use Rattle.otel_trace_run.specs.AskedViews.{view_in}
use Rattle.otel_trace_run.specs.GivenAttributes.{GivesUnread}
use Rattle.otel_trace_run.specs.Pages.{ShowsText, help_in, is_help, is_version, page_text, unread_text, version_in}
use Rattle.otel_trace_run.specs.PictureRuns.{Painting}
use Rattle.otel_trace_run.specs.Program.{MemoryProcessor, Runs}
use Rattle.otel_trace_run.specs.Streams.{Streams}
use Rattle.otel_trace_run.specs.Views.{Views}
use Rattle.otel_trace_run.specs.WrongWords.{refusal_in, refusal_text}
use Rattle.otel_trace_run.specs.declared.asked_view.View.{View}
use Rattle.otel_trace_run.specs.declared.pages.Page.{Page}
use Rattle.otel_trace_run.specs.declared.picture.PictureForm.{PictureForm}
use Rattle.otel_trace_run.specs.declared.request.Request.{Request}
use Rattle.otel_trace_run.specs.declared.request.Request.TheVariants as requests

-- a page, a view or a mode; or nothing, where this is said
pub data PlainRequest : Type 0 where
  page : Page → PlainRequest
  view : View → PlainRequest
  mode : PlainMode → PlainRequest
  nothing : List ℕ → PlainRequest

abbrev pub plain_request : Request → PlainRequest
plain_request (requests.Page asked) = page asked
plain_request (requests.View asked) = view asked
plain_request (requests.Mode asked) = mode (plain_mode asked)
plain_request (requests.Nothing refusal) = nothing (refusal_text refusal)

-- what was found, or nothing
abbrev pub found_or : {X : Type 0} → List ℕ → (X → PlainRequest) → Option X → PlainRequest
found_or refusal asked None = nothing refusal
found_or refusal asked (Some x) = asked x

-- what the arguments ask for, by their first word
unfoldable pub request_in : List (List ℕ) → PlainRequest
request_in [] = nothing (refusal_in [])
request_in (word ∷ after) =
    if is_help word then found_or (refusal_in (word ∷ after)) page (help_in after) else
    (if is_version word then found_or (refusal_in (word ∷ after)) page (version_in after) else
    (if bytes_eq word (codes "view") then found_or (refusal_in (word ∷ after)) view (view_in after)
    else found_or (refusal_in (word ∷ after)) mode (mode_in word after)))

-- the first attribute that a mode is given and that does not read, if there is one
abbrev pub GivenUnread : PlainMode → Option (List ℕ) → Type 0
GivenUnread (trace asked) found = found ≡ None
GivenUnread (steps sizes) found = found ≡ None
GivenUnread (otlp export given) found = GivesUnread given found
GivenUnread (picture asked form) found = found ≡ None

-- that the input and the output are as they were, that no fault was written, and that a text was
pub record Effects : Type 1 where
  pub unread : Type 0
  pub unwritten : Type 0
  pub silent : Type 0
  pub says : List ℕ → Type 0

abbrev pub effects : Type 0 → Type 0 → Type 0 → (List ℕ → Type 0) → Effects
effects unread unwritten silent says =
    record { unread = unread; unwritten = unwritten; silent = silent; says = says }

-- the same of an input, an output and a writer of faults, before and after, of which these tell the bytes
abbrev pub effects_on : {R W F : Type 0} → R → R → W → W → (F → Option (List ℕ)) → F → F → Effects
effects_on input input_after output output_after contents faults faults_after =
    effects (input_after ≡ input) (output_after ≡ output) (faults_after ≡ faults)
    (Appends (contents faults) (contents faults_after))

-- a text was said of the words, with status 2, or 1 where it could not be written; nothing was read or written
abbrev pub Refuses : List ℕ → Effects → ℕ → Type 0
Refuses text e status = e.unread × e.unwritten × ((status ≡ 1) ⊎ ((status ≡ 2) × e.says text))

module _ {C D E : Type 0} (calls : Calls (MemoryProcessor C D) (SamplerOf E) (List ℕ))
    (paints : PictureForm → Painting) where
  -- a mode was run, unless an attribute that it was given does not read
  abbrev pub RunsUnless : Option (List ℕ) → PlainMode → Streams → Effects → ℕ → Type 0
  RunsUnless None asked s e status = (status ≤ 2) × Runs calls paints asked s e.silent e.says status
  RunsUnless (Some member) asked s e status = Refuses (unread_text member) e status

  -- what is asked for is done: a page is shown, a view is drawn, a mode is run, or it is said what could be asked for
  abbrev pub Does : PlainRequest → Streams → Effects → ℕ → Type 0
  Does (page asked) s e status = e.unread × e.silent × ShowsText s.output s.output_after (page_text asked) status
  Does (view asked) s e status = Views asked s e.silent e.says status
  Does (mode asked) s e status =
      (found : Option (List ℕ)) × GivenUnread asked found × RunsUnless found asked s e status
  Does (nothing refusal) s e status = Refuses refusal e status
