-- The mode `view`: traces of any producer are drawn, out of OTLP JSON.
use Rattle.std.specs.Prelude.{◌≡◌, ◌≢◌, ◌⊎◌, ◌≤◌, ◌==◌, ℕ, Bool, List, [], ◌∷◌, ◌++◌, Option, Some, None, codes, decimal}
use Rattle.std.specs.Prelude.{if◌then◌else◌}
use Rattle.std.specs.Io.KnownBytes.{Appends, IsAtEnd}
use Rattle.std.specs.List.{flat_map}
use Rattle.opentelemetry.specs.Hex.{hex_text}
use Rattle.otel_export.specs.Streams.{AppendsBeginning}
use Rattle.otel_otlp_read.specs.Faults.{fault_text}
use Rattle.otel_otlp_read.specs.Inputs.{read_input}
use Rattle.otel_otlp_read.specs.declared.input.LineFault.{LineFault}
use Rattle.otel_otlp_read.specs.declared.left_out.ItemList.{ItemList}
use Rattle.otel_otlp_read.specs.declared.left_out.ItemList.TheVariants as lists
use Rattle.otel_otlp_read.specs.declared.left_out.ItemPlace.{ItemPlace}
use Rattle.otel_picture.specs.Choices.{IsChosen}
use Rattle.otel_picture.specs.Drawn.{AreTracesOf, PlainTraces}
use Rattle.otel_picture.specs.HtmlTexts.{html_text}
use Rattle.otel_picture.specs.Summaries.{summary_text}
use Rattle.otel_picture.specs.Traces.{PlainTrace}
use Rattle.otel_shown.specs.Shown.{PlainShownSpan}
use Rattle.otel_trace_run.specs.Paintings.{picture_of}
use Rattle.otel_trace_run.specs.Streams.{AreAll, Streams, no_spans_text}
use Rattle.otel_trace_run.specs.declared.asked_view.View.{View}
use Rattle.otel_trace_run.specs.declared.asked_view.ViewForm.{ViewForm}
use Rattle.otel_trace_run.specs.declared.asked_view.ViewForm.TheVariants as views
use Rattle.otel_trace_run.specs.declared.view.Found.{Found}
use Rattle.otel_trace_run.specs.declared.view.Found.TheVariants as founds

-- what is written of traces, with attributes or without
abbrev pub written_of : ViewForm → (attributes : Bool) → PlainTraces → List ℕ
written_of (views.Picture form) attributes traces = picture_of form attributes traces
written_of views.Summary attributes traces = summary_text traces
written_of views.Html attributes traces = html_text traces

-- whether anything is drawn of spans, of which these traces are chosen
abbrev pub found_in : List PlainShownSpan → List PlainTrace → Found
found_in [] traces = founds.NoSpan
found_in (span ∷ spans) [] = founds.NoTrace
found_in (span ∷ spans) (trace ∷ traces) = founds.Traces

-- a text is the view of spans: of those of their traces that its choice leaves
pub record IsViewOf (view : View) (spans : List PlainShownSpan) (text : List ℕ) (found : Found) : Type 0 where
  pub traces : PlainTraces
  pub drawn : PlainTraces
  pub traces_are : AreTracesOf spans traces
  pub chosen : IsChosen view.choice traces drawn
  pub text_is : text ≡ written_of view.form view.choice.attributes drawn
  pub found_is : found ≡ found_in spans drawn.traces

-- an item of a list, by its number
abbrev pub item_text : ItemList → ℕ → List ℕ
item_text lists.ResourceSpans number = codes "resource " ++ decimal number
item_text lists.Resources number = codes "the service of resource " ++ decimal number
item_text (lists.ResourceAttributes resource) number =
    codes "attribute " ++ (decimal number ++ (codes " of resource " ++ decimal resource))
item_text (lists.ScopeSpans resource) number =
    codes "scope " ++ (decimal number ++ (codes " of resource " ++ decimal resource))
item_text (lists.Spans resource scope) number =
    codes "span " ++ (decimal number ++ (codes " of scope " ++ (decimal scope
    ++ (codes " of resource " ++ decimal resource))))
item_text (lists.SpanAttributes span_id) number =
    codes "attribute " ++ (decimal number ++ (codes " of span " ++ hex_text 16 span_id))
item_text (lists.SpanEvents span_id) number =
    codes "event " ++ (decimal number ++ (codes " of span " ++ hex_text 16 span_id))
item_text (lists.EventAttributes span_id event) number =
    codes "attribute " ++ (decimal number ++ (codes " of event " ++ (decimal event
    ++ (codes " of span " ++ hex_text 16 span_id))))
item_text (lists.SpanLinks span_id) number =
    codes "link " ++ (decimal number ++ (codes " of span " ++ hex_text 16 span_id))
item_text (lists.LinkAttributes span_id link) number =
    codes "attribute " ++ (decimal number ++ (codes " of link " ++ (decimal link
    ++ (codes " of span " ++ hex_text 16 span_id))))

-- which item was left out, if it is one
abbrev pub place_text : Option ItemPlace → List ℕ
place_text None = []
place_text (Some item) = item_text item.list item.number ++ codes " is left out: "

-- a line that does not read, or an item of one, and why
abbrev pub fault_line : LineFault → List ℕ
fault_line found =
    codes "line " ++ (decimal found.line ++ (codes ": " ++ (place_text found.item ++ (fault_text found.fault
    ++ codes "\n"))))

abbrev pub fault_lines : List LineFault → List ℕ
fault_lines = flat_map fault_line

-- how many requests had no spans, if one had none
abbrev pub spanless_line : ℕ → List ℕ
spanless_line count =
    if count == 0 then [] else codes "requests without spans: " ++ (decimal count ++ codes "\n")

-- that nothing is drawn, and why
abbrev pub found_line : Found → List ℕ
found_line founds.NoSpan = no_spans_text
found_line founds.NoTrace = codes "no such trace\n"
found_line founds.Traces = []

-- what is said of an input beside its view: what does not read, how many requests have no spans, and whether anything
-- is drawn
pub record PlainNotes : Type 0 where
  pub faults : List LineFault
  pub spanless : ℕ
  pub found : Found

abbrev pub notes_text : PlainNotes → List ℕ
notes_text notes = fault_lines notes.faults ++ (spanless_line notes.spanless ++ found_line notes.found)

-- a text is said, if there is one
abbrev pub Tells : Type 0 → (List ℕ → Type 0) → List ℕ → Type 0
Tells Silent Says [] = Silent
Tells Silent Says (b ∷ bs) = Says (b ∷ bs)

-- an input was read to its end; this is the view of its spans, and what is said of it
pub record ReadsView (view : View) (input after : Option (List ℕ)) (text : List ℕ) (notes : PlainNotes)
    : Type 0 where
  pub bytes : List ℕ
  pub all : AreAll input bytes
  pub at_end : IsAtEnd after
  pub shown : IsViewOf view (read_input bytes).spans text notes.found
  pub faults_are : notes.faults ≡ (read_input bytes).faults
  pub spanless_is : notes.spanless ≡ (read_input bytes).spanless

-- the view of a whole input was written
pub record DrawsView (view : View) (s : Streams) (notes : PlainNotes) : Type 0 where
  pub text : List ℕ
  pub reads : ReadsView view s.input s.input_after text notes
  pub written : Appends s.output s.output_after text

-- nothing was written, or a beginning of the view of a whole input
abbrev pub BeginsView : View → Streams → Type 0
BeginsView view s = AppendsBeginning s.output s.output_after []
    ⊎ ((text : List ℕ) × (notes : PlainNotes)
    × ReadsView view s.input s.input_after text notes × AppendsBeginning s.output s.output_after text)

-- 0 where all was read, and 2 where something was not
abbrev pub StatusOf : PlainNotes → ℕ → Type 0
StatusOf notes status = ((status ≡ 0) × (notes.faults ≡ [])) ⊎ ((status ≡ 2) × (notes.faults ≢ []))

-- the view of a whole input was written, and what is said of that
abbrev pub DrawsAndTells : View → Streams → Type 0 → (List ℕ → Type 0) → PlainNotes → Type 0
DrawsAndTells view s Silent Says notes = DrawsView view s notes × Tells Silent Says (notes_text notes)

-- a view by the exit status: 0 where each line read; 2 where some did not, or not all of their parts, which are named;
-- 1 where it failed
pub record Views (view : View) (s : Streams) (Silent : Type 0) (Says : List ℕ → Type 0) (status : ℕ)
    : Type 0 where
  pub small : status ≤ 2
  pub done : status ≡ 0 → (notes : PlainNotes) × (notes.faults ≡ []) × DrawsAndTells view s Silent Says notes
  pub named : status ≡ 2 → (notes : PlainNotes) × (notes.faults ≢ []) × DrawsAndTells view s Silent Says notes
  pub failed : status ≡ 1 → BeginsView view s
