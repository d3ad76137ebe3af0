-- What the SVG form writes: a file, and of each trace a head, an axis and a line a span.
use Rattle.std.specs.Prelude.{ℕ, ◌+◌, ◌-◌, ◌*◌, ◌/◌, ◌%◌, ◌==◌, List, [], ◌∷◌, ◌++◌}
use Rattle.std.specs.Prelude.{codes, decimal, if◌then◌else◌, length, max, min, nat_lt, sum}
use Rattle.std.specs.List.{flat_map}
use Rattle.opentelemetry.specs.Plain.{PlainStatus, unset, error, ok}
use Rattle.otel_shown.specs.Shown.{PlainShownEvent, PlainShownLink, PlainShownSpan}
use Rattle.otel_picture.specs.Axes.{axis_svg}
use Rattle.otel_picture.specs.Bars.{length_of}
use Rattle.otel_picture.specs.Details.{link_text}
use Rattle.otel_picture.specs.Durations.{duration_text}
use Rattle.otel_picture.specs.Drawn.{PlainTraces}
use Rattle.otel_picture.specs.Families.{begin_of}
use Rattle.otel_picture.specs.Layouts.{svg_layout}
use Rattle.otel_picture.specs.RowTexts.{errors_text, kind_text, label_text, service_text, title_text}
use Rattle.otel_picture.specs.PlainSheets.{PlainSheet, errors_in, is_error, is_orphan, row_mark, row_span, sheet_column}
use Rattle.otel_picture.specs.PlainSheets.{sheet_of}
use Rattle.otel_picture.specs.SvgNotes.{level_indent, line_after_row, line_after_rows, svg_notes}
use Rattle.otel_picture.specs.SvgParts.{down, when_text, label_svg, line_after, mark_svg, page_svg, place_svg}
use Rattle.otel_picture.specs.SvgParts.{root_svg, sign_svg, style_text, title_svg}
use Rattle.otel_picture.specs.Texts.{cut_text, shown_text}
use Rattle.otel_picture.specs.Traces.{PlainTrace}
use Rattle.otel_picture.specs.declared.rows.Row.{Row}

-- a service has one of eight colours, by the sum of the bytes of its name
abbrev pub colour_of : List ℕ → ℕ
colour_of service = sum service % 8

-- the class of a bar
unfoldable pub class_text : PlainShownSpan → List ℕ
class_text span =
    codes "s" ++ (decimal (colour_of span.service) ++ (if is_error span.status then codes " error" else []))

-- what went wrong, as a line of a title
abbrev pub fault_text : PlainStatus → List ℕ
fault_text unset = []
fault_text ok = []
fault_text (error description) = codes "\n! " ++ description

-- whose span it is, and of what kind
abbrev pub whose_text : PlainShownSpan → List ℕ
whose_text span =
    span.name ++ (kind_text span.kind ++ (if length span.service == 0 then [] else codes "\n@" ++ span.service))

-- a link, as lines of a title
abbrev pub link_title : PlainShownLink → List ℕ
link_title link = codes "\n> " ++ (link_text link ++ link.attributes)

-- the title of a bar: name, service, kind, moments in nanoseconds since 1970, what went wrong, attributes, and links
abbrev pub title_of : PlainShownSpan → List ℕ
title_of span =
    whose_text span ++ (when_text (codes "start") span.start_time ++ (when_text (codes "end") span.end_time
    ++ (fault_text span.status ++ (span.attributes ++ flat_map link_title span.links))))

-- the title of an event: its name, its moment, and its attributes
abbrev pub event_title : PlainShownEvent → List ℕ
event_title event = event.name ++ (when_text (codes "at") event.timestamp ++ event.attributes)

-- a mark where an event happened, and its title
abbrev pub event_svg : PlainSheet → (line : ℕ) → PlainShownEvent → List ℕ
event_svg sheet line event =
    mark_svg (310 + sheet_column sheet event.timestamp) (down line 3)
    ++ (title_svg (event_title event) ++ codes "</path>")

-- the sign in front of the bar of a span that failed
abbrev pub sign_at : (x y : ℕ) → PlainStatus → List ℕ
sign_at x y status = if is_error status then sign_svg x y else []

-- the level of a row that stands deeper than its name is moved in
abbrev pub level_text : ℕ → List ℕ
level_text level = if nat_lt 10 level then decimal level ++ codes " " else []

-- what went wrong, after the numbers
abbrev pub note_of : PlainStatus → List ℕ
note_of unset = []
note_of ok = []
note_of (error description) = codes " ! " ++ shown_text description

module _ (sheet : PlainSheet) where
  -- what the head of a trace says: how long it was, and how many spans failed
  abbrev pub svg_head : List ℕ
  svg_head = title_text sheet ++ (duration_text (sheet.last - sheet.first) ++ errors_text (errors_in sheet))

  abbrev pub svg_name : (line : ℕ) → Row → List ℕ
  svg_name line row =
      label_svg (10 + 14 * level_indent row) (down line 15) (cut_text (40 - 2 * level_indent row)
      (level_text row.level ++ label_text (is_orphan sheet.trace.marks (row_mark sheet row)) sheet.is_mixed
      (row_span sheet row)))

  -- the bar of a span, from the column of its start to that of its end
  abbrev pub svg_bar : (line : ℕ) → PlainShownSpan → List ℕ
  svg_bar line span =
      let begin : ℕ = sheet_column sheet (begin_of span) in
      let end : ℕ = sheet_column sheet (max (begin_of span) span.end_time) in
      codes "<rect class=\"" ++ (class_text span ++ place_svg (310 + begin) (down line 4) (end - begin + 1))

  -- offset, length, and what went wrong
  abbrev pub svg_numbers_text : Row → List ℕ
  svg_numbers_text row =
      codes "+" ++ (duration_text ((row_mark sheet row).start - sheet.first)
      ++ (codes " " ++ (duration_text (length_of (row_mark sheet row)) ++ note_of (row_span sheet row).status)))

  -- the same, cut to their room
  abbrev pub svg_numbers : (line : ℕ) → Row → List ℕ
  svg_numbers line row = label_svg 778 (down line 15) (cut_text 24 (svg_numbers_text row))

  -- the sign in front of a bar, if the span failed
  abbrev pub svg_sign : (line : ℕ) → PlainShownSpan → List ℕ
  svg_sign line span = sign_at (298 + sheet_column sheet (begin_of span)) (down line 15) span.status

  -- what a line shows of a span, but its title
  abbrev pub svg_shapes : (line : ℕ) → Row → List ℕ
  svg_shapes line row =
      svg_name line row ++ (svg_sign line (row_span sheet row) ++ (svg_bar line (row_span sheet row)
      ++ (flat_map (event_svg sheet line) (row_span sheet row).events ++ svg_numbers line row)))

  -- the line of a span, and those under it
  abbrev pub svg_row : (line : ℕ) → Row → List ℕ
  svg_row line row =
      codes "<g>" ++ (title_svg (title_of (row_span sheet row)) ++ (svg_shapes line row ++ (svg_notes sheet line row
      ++ codes "</g>\n")))

  abbrev pub svg_rows : (line : ℕ) → List Row → List ℕ
  svg_rows line [] = []
  svg_rows line (row ∷ rows) = svg_row line row ++ svg_rows (line_after_row sheet line row) rows

  -- on the line after a head the service, where all spans have one, and the ticks
  abbrev pub svg_service : (line : ℕ) → List ℕ
  svg_service line = label_svg 10 (down (line_after line 1) 15) (cut_text 40 (service_text sheet))

  abbrev pub svg_axis : (line : ℕ) → List ℕ
  svg_axis line =
      axis_svg (sheet.last - sheet.first) (line_after line 1)
      (line_after_rows sheet (line_after line 2) sheet.trace.rows)

  -- after those a line a span
  abbrev pub svg_lines : (line : ℕ) → List ℕ
  svg_lines line = svg_rows (line_after line 2) sheet.trace.rows

  -- a trace: its head, the line of its axis, and a line a span
  abbrev pub svg_trace : (line : ℕ) → List ℕ
  svg_trace line =
      label_svg 10 (down line 15) svg_head ++ (svg_service line ++ (svg_axis line ++ svg_lines line))

-- the line after that of a trace: it takes a head, an axis, its rows and what stands under them, and an empty one
abbrev pub line_after_trace : PlainSheet → (line : ℕ) → ℕ
line_after_trace sheet line = line_after (line_after_rows sheet (line_after line 2) sheet.trace.rows) 1

abbrev pub svg_traces : List PlainShownSpan → (line : ℕ) → List PlainTrace → List ℕ
svg_traces spans line [] = []
svg_traces spans line (trace ∷ traces) =
    svg_trace (sheet_of svg_layout spans trace) line
    ++ svg_traces spans (line_after_trace (sheet_of svg_layout spans trace) line) traces

-- the line after the last one
abbrev pub last_line : List PlainShownSpan → (line : ℕ) → List PlainTrace → ℕ
last_line spans line [] = line
last_line spans line (trace ∷ traces) =
    last_line spans (line_after_trace (sheet_of svg_layout spans trace) line) traces

-- the beginning of the file, so high
abbrev pub svg_begin : (height : ℕ) → List ℕ
svg_begin height = root_svg height ++ (style_text ++ page_svg height)

-- traces as one SVG file
abbrev pub svg_text : PlainTraces → List ℕ
svg_text drawn =
    svg_begin (down (last_line drawn.spans 0 drawn.traces) 10)
    ++ (svg_traces drawn.spans 0 drawn.traces ++ codes "</svg>\n")
