-- What is painted of spans.
use Rattle.std.specs.Prelude.{◌≡◌, ℕ, Bool, false, List, map}
use Rattle.otel_export.specs.PlainSpanData.{PlainSpanData}
use Rattle.otel_shown.specs.Shown.{no_resource, shown_span}
use Rattle.otel_picture.specs.Drawn.{AreTracesOf, PlainTraces}
use Rattle.otel_picture.specs.RowTexts.{picture_text}
use Rattle.otel_picture.specs.SvgTexts.{svg_text}
use Rattle.otel_trace_run.specs.declared.picture.PictureForm.{PictureForm}
use Rattle.otel_trace_run.specs.declared.picture.PictureForm.TheVariants as forms

-- the picture of traces, as text with attributes or without
abbrev pub picture_of : PictureForm → (attributes : Bool) → PlainTraces → List ℕ
picture_of (forms.Text columns) attributes traces = picture_text columns attributes traces
picture_of forms.Svg attributes traces = svg_text traces

-- a text is the picture of exported spans, of which nobody says whose they are: of all their traces, each span in one
-- row
abbrev pub Paints : PictureForm → List PlainSpanData → List ℕ → Type 0
Paints form spans text =
    (traces : PlainTraces) × AreTracesOf (map (shown_span no_resource) spans) traces
    × (text ≡ picture_of form false traces)
