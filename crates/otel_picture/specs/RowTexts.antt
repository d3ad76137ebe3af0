-- What the text form writes: a trace's head and axis, and a row a span.
use Rattle.std.specs.Prelude.{◌≡◌, ◌<◌, ℕ, zero, suc, ◌-◌, ◌*◌, ◌/◌, ◌==◌, ◌&&◌, Bool, true, false, List, [], ◌∷◌, ◌++◌}
use Rattle.std.specs.Prelude.{get_or}
use Rattle.std.specs.Prelude.{codes, decimal, encode_utf8, if◌then◌else◌, length, max, min, nat_le}
use Rattle.std.specs.List.{list_any}
use Rattle.opentelemetry.specs.Hex.{hex_text}
use Rattle.opentelemetry.specs.Plain.{PlainStatus, unset, error, ok}
use Rattle.opentelemetry.specs.declared.trace.span_kind.SpanKind.{SpanKind}
use Rattle.opentelemetry.specs.declared.trace.span_kind.SpanKind.TheVariants as kinds
use Rattle.otel_shown.specs.Shown.{PlainShownEvent, PlainShownSpan}
use Rattle.otel_picture.specs.Axes.{axis_text}
use Rattle.otel_picture.specs.Bars.{length_of, self_time}
use Rattle.otel_picture.specs.Details.{details_text}
use Rattle.otel_picture.specs.Durations.{duration_text}
use Rattle.otel_picture.specs.Drawn.{PlainTraces}
use Rattle.otel_picture.specs.Families.{begin_of}
use Rattle.otel_picture.specs.Layouts.{layout_with}
use Rattle.otel_picture.specs.Odd.{odd_of, odd_text}
use Rattle.otel_picture.specs.PlainSheets.{PlainSheet, errors_in, first_service, is_error, is_orphan, row_mark}
use Rattle.otel_picture.specs.PlainSheets.{row_span, sheet_column, sheet_of}
use Rattle.otel_picture.specs.Texts.{at_right, cut_text, in_room, shown_text, times}
use Rattle.otel_picture.specs.Traces.{PlainTrace}
use Rattle.otel_picture.specs.declared.details.Under.{Under}
use Rattle.otel_picture.specs.declared.layout.Layout.{Layout}
use Rattle.otel_picture.specs.declared.rows.Row.{Row}

-- the word of a kind, after a blank; none of the kind that most spans have
abbrev pub kind_text : SpanKind → List ℕ
kind_text kinds.Client = codes " client"
kind_text kinds.Server = codes " server"
kind_text kinds.Producer = codes " producer"
kind_text kinds.Consumer = codes " consumer"
kind_text kinds.Internal = []

-- the signs in front of a name: its parent is not in the picture, it has links
abbrev pub signs_text : (orphan : Bool) → PlainShownSpan → List ℕ
signs_text orphan span =
    (if orphan then codes "~" else []) ++ (if length span.links == 0 then [] else codes ">")

-- a span's name, with its service where those differ, and its kind
abbrev pub label_text : (orphan mixed : Bool) → PlainShownSpan → List ℕ
label_text orphan mixed span =
    signs_text orphan span ++ (shown_text span.name
    ++ ((if mixed then codes " @" ++ shown_text span.service else []) ++ kind_text span.kind))

-- the sign in front of the bar of a span that failed
abbrev pub sign_text : PlainStatus → List ℕ
sign_text status = if is_error status then codes "!" else codes " "

-- a duration after a sign, at the right of its room
abbrev pub number_text : List ℕ → ℕ → List ℕ
number_text sign nanoseconds = codes " " ++ at_right 8 (sign ++ duration_text nanoseconds)

-- how many spans failed, where any did
abbrev pub errors_text : ℕ → List ℕ
errors_text errors = if errors == 0 then [] else codes "  errors: " ++ decimal errors

module _ (sheet : PlainSheet) where
  -- whether an event happened in a column
  abbrev pub happens_in : List PlainShownEvent → ℕ → Bool
  happens_in events place = list_any (λ event. sheet_column sheet event.timestamp == place) events

  -- the columns of a bar in which events happened are marked
  pub record AreEventColumns (events : List PlainShownEvent) (happened : List Bool) : Type 0 where
    pub alike : length happened ≡ sheet.layout.bar
    pub each : (place : ℕ) → place < sheet.layout.bar → get_or happened place false ≡ happens_in events place

  -- one column of a span's bar: a mark where an event happened, the bar, or a blank
  abbrev pub cell_text : PlainShownSpan → ℕ → List ℕ
  cell_text span place =
      if happens_in span.events place then encode_utf8 183 else
      (if nat_le (sheet_column sheet (begin_of span)) place
      && nat_le place (sheet_column sheet (max (begin_of span) span.end_time)) then codes "=" else codes " ")

  -- so many columns of a span's bar
  abbrev pub cells_text : PlainShownSpan → ℕ → List ℕ
  cells_text span zero = []
  cells_text span (suc place) = cells_text span place ++ cell_text span place

  -- the blanks in front of a name: two a level, as far as that leaves it room
  abbrev pub indent_of : Row → ℕ
  indent_of row = min (row.level * 2) (sheet.layout.name - 4)

  -- the name of a span in its room
  abbrev pub name_text : Row → List ℕ
  name_text row =
      times (indent_of row) 32 ++ in_room (sheet.layout.name - indent_of row)
      (label_text (is_orphan sheet.trace.marks (row_mark sheet row)) sheet.is_mixed (row_span sheet row))

  -- its bar, after the sign of one that failed
  abbrev pub bar_text : Row → List ℕ
  bar_text row = sign_text (row_span sheet row).status ++ cells_text (row_span sheet row) sheet.layout.bar

  -- when it began after its trace, and how long it was
  abbrev pub numbers_text : Row → List ℕ
  numbers_text row =
      if sheet.layout.has_numbers
      then number_text (codes "+") ((row_mark sheet row).start - sheet.first)
      ++ number_text [] (length_of (row_mark sheet row))
      else []

  -- how long none of its children ran
  abbrev pub self_text : ℕ → List ℕ
  self_text own = if sheet.layout.has_self_time then number_text [] own else []

  -- the end of a row, and a line of its own for what went wrong
  abbrev pub note_text : (indent : ℕ) → PlainStatus → List ℕ
  note_text indent unset = codes "\n"
  note_text indent ok = codes "\n"
  note_text indent (error description) =
      codes "\n" ++ (times indent 32 ++ (codes "! "
      ++ (cut_text (sheet.layout.columns - indent - 2) (shown_text description) ++ codes "\n")))

  -- where the lines under a row stand
  abbrev pub under_of : Row → Under
  under_of row = record {
    columns = sheet.layout.columns;
    indent = indent_of row;
    has_attributes = sheet.layout.has_attributes;
  }

  -- those lines
  abbrev pub under_text : Row → List ℕ
  under_text row =
      odd_text (under_of row) (odd_of sheet row) ++ details_text (under_of row) (row_span sheet row)

  -- the row of a span, by how long none of its children ran, and the lines under it
  abbrev pub row_text : Row → ℕ → List ℕ
  row_text row own =
      name_text row ++ (bar_text row ++ (numbers_text row
      ++ (self_text own ++ (note_text (indent_of row) (row_span sheet row).status ++ under_text row))))

  abbrev pub rows_text : List Row → List ℕ
  rows_text [] = []
  rows_text (row ∷ rest) = row_text row (self_time sheet.trace.marks row rest) ++ rows_text rest

  -- a trace, and how many spans it has
  abbrev pub title_text : List ℕ
  title_text =
      codes "trace " ++ (hex_text 32 sheet.trace.trace_id
      ++ (codes "  spans: " ++ (decimal (length sheet.trace.marks) ++ codes "  ")))

  -- the same, how long it was, and how many spans failed
  abbrev pub head_text : List ℕ
  head_text =
      title_text ++ (duration_text (sheet.last - sheet.first)
      ++ (errors_text (errors_in sheet) ++ codes "\n"))

-- what the numbers are
abbrev pub legend_text : Layout → List ℕ
legend_text layout =
    (if layout.has_numbers then codes "    start   length" else [])
    ++ (if layout.has_self_time then codes "     self" else [])

-- the service that all spans of a trace have; none where they have several
abbrev pub service_text : PlainSheet → List ℕ
service_text sheet =
    if sheet.is_mixed then [] else shown_text (first_service sheet.spans sheet.trace.marks)

-- the line above the rows: the service, where all have one, the axis, and what the numbers are
abbrev pub ruler_text : PlainSheet → List ℕ
ruler_text sheet =
    in_room sheet.layout.name (service_text sheet)
    ++ (codes " " ++ (axis_text (sheet.last - sheet.first) sheet.layout.bar
    ++ (legend_text sheet.layout ++ codes "\n")))

-- a trace
abbrev pub trace_text : PlainSheet → List ℕ
trace_text sheet = head_text sheet ++ (ruler_text sheet ++ rows_text sheet sheet.trace.rows)

-- a trace, after an empty line where it is not the first one
abbrev pub apart_text : Bool → PlainSheet → List ℕ
apart_text is_first sheet = if is_first then trace_text sheet else codes "\n" ++ trace_text sheet

-- traces, with an empty line between them
abbrev pub traces_text : Layout → List PlainShownSpan → (is_first : Bool) → List PlainTrace → List ℕ
traces_text layout spans is_first [] = []
traces_text layout spans is_first (trace ∷ traces) =
    apart_text is_first (sheet_of layout spans trace) ++ traces_text layout spans false traces

-- traces as text of so many columns, with the attributes of their spans or without
abbrev pub picture_text : (columns : ℕ) (attributes : Bool) → PlainTraces → List ℕ
picture_text columns attributes drawn = traces_text (layout_with columns attributes) drawn.spans true drawn.traces
