-- Which commands a text spells, line by line. Lines are those of the text, in std's word: each ends in a line feed and
-- loses the one carriage return in front of it, and a rest after the last line feed, if not empty, is a line as it is.
use Rattle.std.specs.Prelude.{◌≡◌, ◌≢◌, ℕ, ℤ, Bool, ◌+◌, ◌<◌, List, [], ◌∷◌, ◌++◌, length, Option}
use Rattle.std.specs.Prelude.{Some, None, All, codes, IsUtf8}
use Rattle.std.specs.Option.{option_map}
use Rattle.std.specs.Str.Lines.{lines}
use Rattle.std.specs.Float.{Float, binary64}
use Rattle.std.specs.Float.Parse.{parse_float}
use Rattle.opentelemetry.specs.declared.trace.span_kind.SpanKind.{SpanKind}
use Rattle.opentelemetry.specs.Plain.{PlainStatus, unset, error, ok}
use Rattle.otel_trace_lines.specs.Commands.{PlainCommand, start, child, remote, attr, event, status, inject, end, flush}
use Rattle.otel_trace_lines.specs.Commands.{run, shutdown, set_int, set_bool, set_float, link, exception}
use Rattle.otel_trace_lines.specs.Commands.{event_with, forget, has_more}
use Rattle.otel_trace_lines.specs.Dialects.{HasWord, MayHave, without_comments}
use Rattle.otel_trace_lines.specs.Numbers.{decimal_in, integer_in, kind_in, truth_in}
use Rattle.otel_trace_lines.specs.declared.dialect.Dialect.{Dialect}

-- a field is not empty and has no space in it
abbrev pub IsField : List ℕ → Type 0
IsField bytes = (0 < length bytes) × All (λ b. b ≢ 32) bytes

-- a status is `ok`, or `error`, a space and the description, which may be empty; no text is a status that nobody set
abbrev pub IsStatus : List ℕ → PlainStatus → Type 0
IsStatus text unset = ⊥
IsStatus text (error description) = text ≡ codes "error" ++ 32 ∷ description
IsStatus text ok = text ≡ codes "ok"

-- the form of a line, from its front to its end
pub data LineForm : Type 0 where
  -- a field, a space, and what stands after it
  field : List ℕ → LineForm → LineForm
  -- a field with nothing after it
  last_field : List ℕ → LineForm
  -- a moment, in decimal digits
  time : ℕ → LineForm
  -- a status
  outcome : PlainStatus → LineForm
  -- the rest of the line, whatever it is
  rest_of_line : List ℕ → LineForm
  -- an integer, in decimal digits
  whole : ℤ → LineForm
  -- a truth value
  truth : Bool → LineForm
  -- a float, in a text that reads as it
  float : Float → LineForm
  -- a moment, a space, and what stands after it
  instant : ℕ → LineForm → LineForm
  -- the word of a kind
  sort : SpanKind → LineForm

-- a text is of a form
abbrev pub IsOfForm : List ℕ → LineForm → Type 0
IsOfForm text (field front after) =
    IsField front × ((rest : List ℕ) × (text ≡ front ++ 32 ∷ rest) × IsOfForm rest after)
IsOfForm text (last_field last) = IsField last × (text ≡ last)
IsOfForm text (time moment) = decimal_in text ≡ Some moment
IsOfForm text (outcome how) = IsStatus text how
IsOfForm text (rest_of_line rest) = text ≡ rest
IsOfForm text (whole number) = integer_in text ≡ Some number
IsOfForm text (truth value) = truth_in text ≡ Some value
IsOfForm text (float value) = parse_float binary64 text ≡ Some value
IsOfForm text (instant moment after) = (digits : List ℕ) × IsField digits × (decimal_in digits ≡ Some moment)
    × ((rest : List ℕ) × (text ≡ digits ++ 32 ∷ rest) × IsOfForm rest after)
IsOfForm text (sort kind) = kind_in text ≡ Some kind

-- a moment, alone or in front of something
abbrev pub moment_and : ℕ → Option LineForm → LineForm
moment_and moment None = time moment
moment_and moment (Some after) = instant moment after

-- a moment, and the kind of a span, if one is given
abbrev pub start_form : ℕ → Option SpanKind → LineForm
start_form moment kind = moment_and moment (option_map sort kind)

-- the form of a command's line: its word, and what stands after the word
abbrev pub form_of : PlainCommand → LineForm
form_of (start span name moment kind) = field (codes "start") (field span (field name (start_form moment kind)))
form_of (child span parent name moment kind) =
    field (codes "child") (field span (field parent (field name (start_form moment kind))))
form_of (remote span header name moment kind) =
    field (codes "remote") (field span (field header (field name (start_form moment kind))))
form_of (attr span key value) = field (codes "attr") (field span (field key (rest_of_line value)))
form_of (event span name moment) = field (codes "event") (field span (field name (time moment)))
form_of (status span how) = field (codes "status") (field span (outcome how))
form_of (inject span) = field (codes "inject") (last_field span)
form_of (end span moment) = field (codes "end") (field span (time moment))
form_of flush = last_field (codes "flush")
form_of (run moment) = field (codes "run") (time moment)
form_of shutdown = last_field (codes "shutdown")
form_of (set_int span key value) = field (codes "int") (field span (field key (whole value)))
form_of (set_bool span key value) = field (codes "bool") (field span (field key (truth value)))
form_of (set_float span key value) = field (codes "float") (field span (field key (float value)))
form_of (link span target) = field (codes "link") (field span (last_field target))
form_of (exception span kind moment message) =
    field (codes "exception") (field span (field kind (instant moment (rest_of_line message))))
form_of (event_with span name moment key value) =
    field (codes "event") (field span (field name (instant moment (field key (rest_of_line value)))))
form_of (forget span) = field (codes "forget") (last_field span)

-- the field in front of a form, if there is one
abbrev pub word_of : LineForm → List ℕ
word_of (field front after) = front
word_of (last_field last) = last
word_of _ = []

module _ (dialect : Dialect) where
  -- a line reads as a command: the dialect has that, and the line is text of its form
  abbrev pub Reads : List ℕ → PlainCommand → Type 0
  Reads line command = IsUtf8 line × IsOfForm line (form_of command) × HasWord dialect (word_of (form_of command))
      × MayHave dialect (has_more command)

  -- a bad line: not empty, and it reads as no command
  abbrev pub IsBad : List ℕ → Type 0
  IsBad line = (line ≢ []) × ((command : PlainCommand) → Reads line command → ⊥)

  -- lines that read as these commands, one each, but for empty lines, which are left out
  abbrev pub Spell : List (List ℕ) → List PlainCommand → Type 0
  Spell [] [] = Unit {0}
  Spell [] (command ∷ commands) = ⊥
  Spell ([] ∷ more) commands = Spell more commands
  Spell ((b ∷ line) ∷ more) [] = ⊥
  Spell ((b ∷ line) ∷ more) (command ∷ commands) = Reads (b ∷ line) command × Spell more commands

  -- line n, counted from 1, is the first bad one, and the lines before it spell the commands
  pub record StopsAt (all : List (List ℕ)) (commands : List PlainCommand) (n : ℕ) : Type 0 where
    pub before : List (List ℕ)
    pub line : List ℕ
    pub after : List (List ℕ)
    pub parts : all ≡ before ++ line ∷ after
    pub number : n ≡ length before + 1
    pub spelled : Spell before commands
    pub bad : IsBad line

  -- what lines spell up to the first bad one, and which one that is, if there is one
  abbrev pub SpellUpTo : List (List ℕ) → List PlainCommand → Option ℕ → Type 0
  SpellUpTo all commands None = Spell all commands
  SpellUpTo all commands (Some n) = StopsAt all commands n

  -- what a text spells up to its first bad line, and which one that is, if there is one: a comment is an empty line
  abbrev pub TextSpells : List ℕ → List PlainCommand → Option ℕ → Type 0
  TextSpells text commands bad_line = SpellUpTo (without_comments dialect (lines text)) commands bad_line

  -- what a text without a bad line spells goes on in another after its end, with its lines counted through
  abbrev pub GoesOn : List ℕ → List ℕ → Type 0
  GoesOn first second = (commands more : List PlainCommand) (bad_line : Option ℕ)
      → TextSpells first commands None → TextSpells second more bad_line
      → TextSpells (first ++ second) (commands ++ more) (option_map (λ n. length (lines first) + n) bad_line)

  -- a text that spells no command: its lines up to the first bad one are empty
  abbrev pub SpellsNothing : List ℕ → Type 0
  SpellsNothing text = (bad_line : Option ℕ) × TextSpells text [] bad_line
