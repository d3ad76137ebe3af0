-- The lines under the row of a span in the SVG form: what is odd, its exceptions and its links; and the line after them.
use Rattle.std.specs.Prelude.{ℕ, ◌+◌, ◌-◌, ◌*◌, ◌==◌, ◌&&◌, Bool, List, [], ◌∷◌, ◌++◌, codes, count_by, decimal, if◌then◌else◌, length, min}
use Rattle.std.specs.List.{flat_map}
use Rattle.std.specs.Str.{chars}
use Rattle.otel_shown.specs.Shown.{PlainShownEvent, PlainShownLink, PlainShownSpan}
use Rattle.otel_picture.specs.Details.{exception_text, is_exception, link_text}
use Rattle.otel_picture.specs.Odd.{odd_lines, odd_of}
use Rattle.otel_picture.specs.PlainSheets.{PlainSheet, row_span}
use Rattle.otel_picture.specs.SvgParts.{down, line_after}
use Rattle.otel_picture.specs.Texts.{cut_text, escaped_text}
use Rattle.otel_picture.specs.declared.odd.Odd.{Odd}
use Rattle.otel_picture.specs.declared.rows.Row.{Row}

-- how far a row is moved in: by its level, ten levels at most
abbrev pub level_indent : Row → ℕ
level_indent row = min row.level 10

-- a line a row further down, after a sign, cut to its room
unfoldable pub note_svg : (indent : ℕ) (sign text : List ℕ) → List ℕ
note_svg indent sign text =
    codes "<tspan x=\"" ++ (decimal (10 + 14 * indent) ++ (codes "\" dy=\"20\">" ++ (sign
    ++ (escaped_text (chars (cut_text (128 - 2 * indent) text)) ++ codes "</tspan>"))))

abbrev pub event_note : (indent : ℕ) → PlainShownEvent → List ℕ
event_note indent event =
    if is_exception event then note_svg indent (codes "* ") (exception_text event.attributes) else []

abbrev pub link_note : (indent : ℕ) → PlainShownLink → List ℕ
link_note indent link = note_svg indent (codes "&gt; ") (link_text link)

-- a line that says what is odd, where it is so
abbrev pub odd_note : (indent : ℕ) → Bool → List ℕ → List ℕ
odd_note indent is_so said = if is_so then note_svg indent (codes "? ") said else []

-- all that is odd
unfoldable pub odd_notes : (indent : ℕ) → Odd → List ℕ
odd_notes indent odd =
    odd_note indent odd.no_start (codes "no start") ++ (odd_note indent odd.no_end (codes "no end")
    ++ (odd_note indent odd.is_backward (codes "ends before it starts")
    ++ (odd_note indent odd.in_circle (codes "in a circle of parents")
    ++ odd_note indent odd.comes_again (codes "has the id of a span before it"))))

-- those of a span
unfoldable pub notes_text : (indent : ℕ) → Odd → PlainShownSpan → List ℕ
notes_text indent odd span =
    odd_notes indent odd ++ (flat_map (event_note indent) span.events ++ flat_map (link_note indent) span.links)

-- how many exceptions are among events
abbrev pub exceptions_in : List PlainShownEvent → ℕ
exceptions_in events = count_by is_exception events

-- the beginning of a text that goes on under its line
unfoldable pub notes_head : (y : ℕ) → List ℕ
notes_head y = codes "<text x=\"10\" y=\"" ++ (decimal y ++ codes "\" xml:space=\"preserve\">")

-- that text
unfoldable pub notes_svg : (indent y : ℕ) → Odd → PlainShownSpan → List ℕ
notes_svg indent y odd span = notes_head y ++ (notes_text indent odd span ++ codes "</text>")

module _ (sheet : PlainSheet) where
  -- the lines under a row, if there are any
  abbrev pub svg_notes : (line : ℕ) → Row → List ℕ
  svg_notes line row =
      if (odd_lines (odd_of sheet row) == 0) && (exceptions_in (row_span sheet row).events == 0)
      && (length (row_span sheet row).links == 0) then []
      else notes_svg (level_indent row) (down line 15) (odd_of sheet row) (row_span sheet row)

  -- the line after a row
  abbrev pub line_after_row : (line : ℕ) → Row → ℕ
  line_after_row line row =
      line_after (line_after (line_after (line_after line 1) (odd_lines (odd_of sheet row)))
      (exceptions_in (row_span sheet row).events)) (length (row_span sheet row).links)

  -- the line after rows
  abbrev pub line_after_rows : (line : ℕ) → List Row → ℕ
  line_after_rows line [] = line
  line_after_rows line (row ∷ rows) = line_after_rows (line_after_row line row) rows
