-- What stands under the row of a span: its exceptions and its links, and where they are asked for its attributes and its
-- other events.
use Rattle.std.specs.Prelude.{ℕ, ◌-◌, ◌==◌, ◌&&◌, Bool, List, [], ◌∷◌, ◌++◌, Option, Some, None, codes, length, nat_lt}
use Rattle.std.specs.Prelude.{if◌then◌else◌}
use Rattle.std.specs.List.{after_first, before_first, flat_map, position_or_len}
use Rattle.std.specs.Str.{bytes_eq}
use Rattle.opentelemetry.specs.Hex.{hex_text}
use Rattle.opentelemetry.specs.Members.{pieces_at}
use Rattle.opentelemetry.specs.Same.{same_text}
use Rattle.otel_shown.specs.Shown.{PlainShownEvent, PlainShownLink, PlainShownSpan}
use Rattle.otel_picture.specs.Texts.{cut_text, shown_text, times}
use Rattle.otel_picture.specs.declared.details.Under.{Under}

abbrev pub is_equals : ℕ → Bool
is_equals b = b == 61

-- a line of attributes is of a key: it stands in front of the line's first equals sign
abbrev pub has_key : List ℕ → List ℕ → Bool
has_key key line =
    nat_lt (position_or_len is_equals line) (length line) && same_text (before_first is_equals line) key

-- the lines of attributes; in front of the first line feed there is none
abbrev pub lines_in : List ℕ → List (List ℕ)
lines_in attributes = pieces_at 10 attributes

-- the value of a key, as far as its first line; of a key that stands twice the first one
abbrev pub value_in : List ℕ → List (List ℕ) → Option (List ℕ)
value_in key [] = None
value_in key (line ∷ lines) = if has_key key line then Some (after_first is_equals line) else value_in key lines

-- a part of what is said of an exception, after a sign, if it is there
abbrev pub part_text : List ℕ → Option (List ℕ) → List ℕ
part_text sign None = []
part_text sign (Some text) = sign ++ shown_text text

-- what is said of an exception by its attributes: its type, its message, and the first line of its stack trace
abbrev pub exception_text : List ℕ → List ℕ
exception_text attributes =
    codes "exception" ++ (part_text (codes " ") (value_in (codes "exception.type") (lines_in attributes))
    ++ (part_text (codes ": ") (value_in (codes "exception.message") (lines_in attributes))
    ++ part_text (codes " | ") (value_in (codes "exception.stacktrace") (lines_in attributes))))

-- an event says that there was an exception by its name
abbrev pub is_exception : PlainShownEvent → Bool
is_exception event = bytes_eq event.name (codes "exception")

-- the ids of a link's span
abbrev pub link_text : PlainShownLink → List ℕ
link_text link = hex_text 32 link.trace_id ++ (codes " " ++ hex_text 16 link.span_id)

module _ (under : Under) where
  -- a line: blanks, a sign and a blank, and a text that is cut at the edge
  abbrev pub detail_text : (sign text : List ℕ) → List ℕ
  detail_text sign text =
      times under.indent 32 ++ (sign ++ (cut_text (under.columns - under.indent - 2) text ++ codes "\n"))

  -- a line of attributes; none of an empty one
  abbrev pub attribute_text : List ℕ → List ℕ
  attribute_text line = if length line == 0 then [] else detail_text (codes "- ") (shown_text line)

  -- attributes, where they are asked for
  abbrev pub attributes_text : List ℕ → List ℕ
  attributes_text attributes = if under.has_attributes then flat_map attribute_text (lines_in attributes) else []

  -- an exception, or another event where attributes are asked for
  abbrev pub event_line : PlainShownEvent → List ℕ
  event_line event =
      if is_exception event then detail_text (codes "* ") (exception_text event.attributes) else
      (if under.has_attributes then detail_text (codes "* ") (shown_text event.name) else [])

  -- an event and its attributes
  abbrev pub event_text : PlainShownEvent → List ℕ
  event_text event = event_line event ++ attributes_text event.attributes

  -- a link and its attributes
  abbrev pub link_lines : PlainShownLink → List ℕ
  link_lines link = detail_text (codes "> ") (link_text link) ++ attributes_text link.attributes

  -- all that stands under the row of a span, but what went wrong
  abbrev pub details_text : PlainShownSpan → List ℕ
  details_text span =
      attributes_text span.attributes ++ (flat_map event_text span.events ++ flat_map link_lines span.links)
