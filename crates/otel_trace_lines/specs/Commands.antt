-- Commands as contracts see them: numbers, and texts as their bytes.
use Rattle.std.specs.Prelude.{ℕ, ℤ, Bool, true, false, List, Option, is_some, map, string_bytes}
use Rattle.std.specs.Float.{Float}
use Rattle.opentelemetry.specs.Plain.{PlainStatus}
use Rattle.opentelemetry.specs.PlainValues.{plain_status}
use Rattle.opentelemetry.specs.declared.trace.span_kind.SpanKind.{SpanKind}
use Rattle.otel_trace_lines.specs.declared.command.Command.{Command}
use Rattle.otel_trace_lines.specs.declared.command.Command.TheVariants as commands

-- a command without where its texts lie
pub data PlainCommand : Type 0 where
  -- the span's text, the span's name, the moment at which it starts, its kind, if one is given
  start : List ℕ → List ℕ → ℕ → Option SpanKind → PlainCommand
  -- the span's text, its parent's text, and the same
  child : List ℕ → List ℕ → List ℕ → ℕ → Option SpanKind → PlainCommand
  -- the span's text, the header, and the same
  remote : List ℕ → List ℕ → List ℕ → ℕ → Option SpanKind → PlainCommand
  -- the span's text, the key, the value
  attr : List ℕ → List ℕ → List ℕ → PlainCommand
  -- the span's text, the event's name, the moment at which it happened
  event : List ℕ → List ℕ → ℕ → PlainCommand
  -- the span's text, how its operation went
  status : List ℕ → PlainStatus → PlainCommand
  -- the span's text
  inject : List ℕ → PlainCommand
  -- the span's text, the moment at which it ends
  end : List ℕ → ℕ → PlainCommand
  -- of the provider, and of no span
  flush : PlainCommand
  -- the moment that is now
  run : ℕ → PlainCommand
  shutdown : PlainCommand
  -- the span's text, the key, the value
  set_int : List ℕ → List ℕ → ℤ → PlainCommand
  set_bool : List ℕ → List ℕ → Bool → PlainCommand
  set_float : List ℕ → List ℕ → Float → PlainCommand
  -- the span's text, the text of the span that it points to
  link : List ℕ → List ℕ → PlainCommand
  -- the span's text, the name of the error's type, the moment at which it was met, its message
  exception : List ℕ → List ℕ → ℕ → List ℕ → PlainCommand
  -- an event, and after its moment the key and the value of its attribute
  event_with : List ℕ → List ℕ → ℕ → List ℕ → List ℕ → PlainCommand
  -- the span's text
  forget : List ℕ → PlainCommand

-- what a command asks for
abbrev pub plain_command : Command → PlainCommand
plain_command (commands.Start span name moment kind) = start (string_bytes span) (string_bytes name) moment.0 kind
plain_command (commands.Child span parent name moment kind) =
    child (string_bytes span) (string_bytes parent) (string_bytes name) moment.0 kind
plain_command (commands.Remote span header name moment kind) =
    remote (string_bytes span) (string_bytes header) (string_bytes name) moment.0 kind
plain_command (commands.Attr span key value) = attr (string_bytes span) (string_bytes key) (string_bytes value)
plain_command (commands.Event span name moment) = event (string_bytes span) (string_bytes name) moment.0
plain_command (commands.Status span how) = status (string_bytes span) (plain_status how)
plain_command (commands.Inject span) = inject (string_bytes span)
plain_command (commands.End span moment) = end (string_bytes span) moment.0
plain_command commands.Flush = flush
plain_command (commands.Run moment) = run moment.0
plain_command commands.Shutdown = shutdown
plain_command (commands.Int span key value) = set_int (string_bytes span) (string_bytes key) value
plain_command (commands.Bool span key value) = set_bool (string_bytes span) (string_bytes key) value
plain_command (commands.Float span key value) = set_float (string_bytes span) (string_bytes key) value
plain_command (commands.Link span target) = link (string_bytes span) (string_bytes target)
plain_command (commands.Exception span kind moment message) =
    exception (string_bytes span) (string_bytes kind) moment.0 (string_bytes message)
plain_command (commands.EventWithAttribute span name moment key value) =
    event_with (string_bytes span) (string_bytes name) moment.0 (string_bytes key) (string_bytes value)
plain_command (commands.Forget span) = forget (string_bytes span)

-- whether a command has what only the extended grammar writes after a moment
abbrev pub has_more : PlainCommand → Bool
has_more (start span name moment kind) = is_some kind
has_more (child span parent name moment kind) = is_some kind
has_more (remote span header name moment kind) = is_some kind
has_more (event_with span name moment key value) = true
has_more _ = false

-- whether a command may end a span
abbrev pub is_end : PlainCommand → Bool
is_end (end span moment) = true
is_end _ = false

-- whether a command may have a batch exported: it ends a span, or calls the provider
abbrev pub may_export : PlainCommand → Bool
may_export (end span moment) = true
may_export flush = true
may_export (run moment) = true
may_export shutdown = true
may_export _ = false

-- what commands ask for, in order
abbrev pub plain_commands : List Command → List PlainCommand
plain_commands = map plain_command
