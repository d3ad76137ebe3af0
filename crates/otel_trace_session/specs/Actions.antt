-- What a command does, whatever its words: it starts a span, edits one, links it to another, tells its headers, ends
-- it, gives its name up, or calls the provider.
use Rattle.std.specs.Prelude.{ℕ, Bool, true, false, List, [], ◌∷◌, Option, Some, None, string_bytes}
use Rattle.opentelemetry.specs.Plain.{PlainKeyValue, PlainValue, boolean, integer, text, double}
use Rattle.opentelemetry.specs.PlainSpanBuilder.{PlainSpanBuilder, named_builder}
use Rattle.opentelemetry.specs.declared.trace.span_kind.SpanKind.{SpanKind}
use Rattle.otel_pipeline.specs.Exceptions.{PlainException, exception_event}
use Rattle.otel_pipeline.specs.SpanEdits.{Edit, add_event, new_event, plain_edit, set_attribute, set_status}
use Rattle.otel_trace_lines.specs.Commands.{PlainCommand, start, child, remote, attr, event, status, inject, end, flush}
use Rattle.otel_trace_lines.specs.Commands.{run, shutdown, set_int, set_bool, set_float, link, exception}
use Rattle.otel_trace_lines.specs.Commands.{event_with, forget}
use Rattle.otel_trace_session.specs.declared.actions.Action.{Action}
use Rattle.otel_trace_session.specs.declared.actions.Action.TheVariants as actions
use Rattle.otel_trace_session.specs.declared.actions.Origin.{Origin}
use Rattle.otel_trace_session.specs.declared.actions.Origin.TheVariants as origins
use Rattle.otel_trace_session.specs.declared.actions.ProviderCall.{ProviderCall}
use Rattle.otel_trace_session.specs.declared.actions.ProviderCall.TheVariants as calls

-- where a span starts: as a root, as a child of the span of a name, or where a header says
pub data PlainOrigin : Type 0 where
  at_root : PlainOrigin
  under : List ℕ → PlainOrigin
  from_header : List ℕ → PlainOrigin

-- a call of the provider: a flush, a run at a moment, a shutdown
pub data PlainCall : Type 0 where
  call_flush : PlainCall
  call_run : ℕ → PlainCall
  call_shutdown : PlainCall

pub data PlainAction : Type 0 where
  -- where the span starts, its name in commands, what it starts with, the moment
  start_span : PlainOrigin → List ℕ → PlainSpanBuilder → ℕ → PlainAction
  -- the span's name in commands, the edit
  edit_span : List ℕ → Edit → PlainAction
  inject_span : List ℕ → PlainAction
  -- the span's name in commands, the moment
  end_span : List ℕ → ℕ → PlainAction
  call_provider : PlainCall → PlainAction
  -- the span's name in commands, the name of the span that it points to
  link_span : List ℕ → List ℕ → PlainAction
  forget_span : List ℕ → PlainAction

-- a name, and a kind, if one is given
abbrev pub builder_of : List ℕ → Option SpanKind → PlainSpanBuilder
builder_of name kind = record (named_builder name) { span_kind = kind }

-- the edit that adds an event
abbrev pub event_edit : List ℕ → ℕ → List PlainKeyValue → Edit
event_edit name moment attributes = add_event (new_event name moment attributes)

-- an error of which the message and the type are known
abbrev pub exception_with : List ℕ → List ℕ → PlainException
exception_with message kind = record { message = message; exception_type = Some kind; stacktrace = None }

-- the edit that sets an attribute
abbrev pub attribute_edit : List ℕ → PlainValue → Edit
attribute_edit key value = set_attribute (record { key = key; value = value })

-- what a command does
abbrev pub action_of : PlainCommand → PlainAction
action_of (start span name moment kind) = start_span at_root span (builder_of name kind) moment
action_of (child span parent name moment kind) = start_span (under parent) span (builder_of name kind) moment
action_of (remote span header name moment kind) = start_span (from_header header) span (builder_of name kind) moment
action_of (attr span key value) = edit_span span (attribute_edit key (text value))
action_of (event span name moment) = edit_span span (event_edit name moment [])
action_of (status span how) = edit_span span (set_status how)
action_of (inject span) = inject_span span
action_of (end span moment) = end_span span moment
action_of flush = call_provider call_flush
action_of (run moment) = call_provider (call_run moment)
action_of shutdown = call_provider call_shutdown
action_of (set_int span key value) = edit_span span (attribute_edit key (integer value))
action_of (set_bool span key value) = edit_span span (attribute_edit key (boolean value))
action_of (set_float span key value) = edit_span span (attribute_edit key (double value))
action_of (link span target) = link_span span target
action_of (exception span kind moment message) =
    edit_span span (add_event (exception_event (exception_with message kind) moment))
action_of (event_with span name moment key value) =
    edit_span span (event_edit name moment (record { key = key; value = text value } ∷ []))
action_of (forget span) = forget_span span

-- whether an action may end a span
abbrev pub ends_span : PlainAction → Bool
ends_span (end_span span moment) = true
ends_span _ = false

-- whether an action has the provider hand on what waits, where batches may be lost that no reply tells
abbrev pub may_lose : PlainAction → Bool
may_lose (call_provider call) = true
may_lose _ = false

-- whether it has each processor hand on all that waits
abbrev pub empties : PlainAction → Bool
empties (call_provider call_flush) = true
empties (call_provider call_shutdown) = true
empties _ = false

-- whether it shuts the provider down
abbrev pub is_shutdown : PlainAction → Bool
is_shutdown (call_provider call_shutdown) = true
is_shutdown _ = false

-- an action without where its texts lie
abbrev pub plain_origin : Origin → PlainOrigin
plain_origin origins.Root = at_root
plain_origin (origins.Parent name) = under (string_bytes name)
plain_origin (origins.Header header) = from_header (string_bytes header)

abbrev pub plain_call : ProviderCall → PlainCall
plain_call calls.Flush = call_flush
plain_call (calls.Run moment) = call_run moment.0
plain_call calls.Shutdown = call_shutdown

abbrev pub plain_action : Action → PlainAction
plain_action (actions.Start origin span builder moment) =
    start_span (plain_origin origin) (string_bytes span) builder moment.0
plain_action (actions.Edit span edit) = edit_span (string_bytes span) (plain_edit edit)
plain_action (actions.Inject span) = inject_span (string_bytes span)
plain_action (actions.End span moment) = end_span (string_bytes span) moment.0
plain_action (actions.Call call) = call_provider (plain_call call)
plain_action (actions.Link span target) = link_span (string_bytes span) (string_bytes target)
plain_action (actions.Exception span met moment) =
    edit_span (string_bytes span) (add_event (exception_event met moment.0))
plain_action (actions.EventWithAttribute span name moment attribute) =
    edit_span (string_bytes span) (event_edit (string_bytes name) moment.0 (attribute ∷ []))
plain_action (actions.Forget span) = forget_span (string_bytes span)
