-- What is drawn of a trace: its spans, its scale and the rooms of its rows.
use Rattle.std.specs.Prelude.{ℕ, ◌==◌, ◌&&◌, Bool, true, false, List, [], ◌∷◌, count_by, is_none, not}
use Rattle.std.specs.List.{list_any}
use Rattle.std.specs.Str.{bytes_eq}
use Rattle.opentelemetry.specs.Plain.{PlainStatus, unset, error, ok}
use Rattle.otel_shown.specs.Shown.{PlainShownSpan}
use Rattle.otel_picture.specs.Bars.{column, first_of, last_of}
use Rattle.otel_picture.specs.Families.{parent_in, span_at}
use Rattle.otel_picture.specs.Orders.{mark_at}
use Rattle.otel_picture.specs.Traces.{PlainTrace}
use Rattle.otel_picture.specs.declared.layout.Layout.{Layout}
use Rattle.otel_picture.specs.declared.rows.Mark.{Mark}
use Rattle.otel_picture.specs.declared.rows.Row.{Row}

-- what is drawn of a trace, and how
pub record PlainSheet : Type 0 where
  pub spans : List PlainShownSpan
  pub trace : PlainTrace
  pub layout : Layout
  pub first : ℕ
  pub last : ℕ
  -- whether its spans are of more services than one
  pub is_mixed : Bool

abbrev pub span_of : List PlainShownSpan → Mark → PlainShownSpan
span_of spans mark = span_at spans mark.place

-- the service of a trace's first span
abbrev pub first_service : List PlainShownSpan → List Mark → List ℕ
first_service spans [] = []
first_service spans (mark ∷ marks) = (span_of spans mark).service

abbrev pub are_mixed : List PlainShownSpan → List Mark → Bool
are_mixed spans marks =
    list_any (λ mark. not (bytes_eq (span_of spans mark).service (first_service spans marks))) marks

abbrev pub sheet_of : Layout → List PlainShownSpan → PlainTrace → PlainSheet
sheet_of layout spans trace = record {
  spans = spans;
  trace = trace;
  layout = layout;
  first = first_of trace.marks;
  last = last_of trace.marks;
  is_mixed = are_mixed spans trace.marks;
}

-- whether a span names a parent that is not in the picture
abbrev pub is_orphan : List Mark → Mark → Bool
is_orphan marks mark = not (mark.parent == 0) && is_none (parent_in marks mark)

-- whether it says that the span failed
abbrev pub is_error : PlainStatus → Bool
is_error unset = false
is_error ok = false
is_error (error description) = true

module _ (sheet : PlainSheet) where
  abbrev pub sheet_column : ℕ → ℕ
  sheet_column moment = column sheet.first sheet.last sheet.layout.bar moment

  -- the mark of a row, and its span
  abbrev pub row_mark : Row → Mark
  row_mark row = mark_at sheet.trace.marks row.span

  abbrev pub row_span : Row → PlainShownSpan
  row_span row = span_of sheet.spans (row_mark row)

  -- how many spans failed
  abbrev pub errors_in : ℕ
  errors_in = count_by (λ mark. is_error (span_of sheet.spans mark).status) sheet.trace.marks
