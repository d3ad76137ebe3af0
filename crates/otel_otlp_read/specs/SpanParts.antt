-- A span of a request, with its kind and its status. What is not shown is not looked at.
use Rattle.std.specs.Prelude.{ℕ, List, ◌++◌, codes, Result, Ok, Err, if◌then◌else◌}
use Rattle.std.specs.Str.{bytes_eq}
use Rattle.json.specs.Json.{Json, null, boolean, number, string, array, object}
use Rattle.opentelemetry.specs.Plain.{PlainStatus, unset, error, ok}
use Rattle.opentelemetry.specs.declared.trace.span_kind.SpanKind.{SpanKind}
use Rattle.opentelemetry.specs.declared.trace.span_kind.SpanKind.TheVariants as kinds
use Rattle.otel_shown.specs.Shown.{PlainShownResource, PlainShownSpan}
use Rattle.otel_otlp_read.specs.declared.fault.Fault.{Fault}
use Rattle.otel_otlp_read.specs.declared.fault.Fault.TheVariants as faults
use Rattle.otel_otlp_read.specs.declared.left_out.ItemList.TheVariants as lists
use Rattle.otel_otlp_read.specs.declared.left_out.LeftOut.{LeftOut}
use Rattle.otel_otlp_read.specs.declared.status.StatusCode.{StatusCode}
use Rattle.otel_otlp_read.specs.declared.status.StatusCode.TheVariants as status_codes
use Rattle.otel_otlp_read.specs.Reading.{◌>>=◌}
use Rattle.otel_otlp_read.specs.Members.{given, object_or, or_default, text_of}
use Rattle.otel_otlp_read.specs.Numbers.{id_of, is_integer, moment_of, parent_of, spells}
use Rattle.otel_otlp_read.specs.SpanLists.{attributes_of, events_of, links_of}

-- a kind by its number; one that is not known, as one that is not said, is internal
unfoldable pub numbered_kind : List ℕ → Result SpanKind Fault
numbered_kind text =
    if spells 2 text then Ok kinds.Server else
    (if spells 3 text then Ok kinds.Client else
    (if spells 4 text then Ok kinds.Producer else
    (if spells 5 text then Ok kinds.Consumer else
    (if is_integer text then Ok kinds.Internal else Err faults.KindForm))))

-- and by its name
unfoldable pub named_kind : List ℕ → Result SpanKind Fault
named_kind text =
    if bytes_eq text (codes "SPAN_KIND_SERVER") then Ok kinds.Server else
    (if bytes_eq text (codes "SPAN_KIND_CLIENT") then Ok kinds.Client else
    (if bytes_eq text (codes "SPAN_KIND_PRODUCER") then Ok kinds.Producer else
    (if bytes_eq text (codes "SPAN_KIND_CONSUMER") then Ok kinds.Consumer else
    (if bytes_eq text (codes "SPAN_KIND_INTERNAL") then Ok kinds.Internal else
    (if bytes_eq text (codes "SPAN_KIND_UNSPECIFIED") then Ok kinds.Internal else Err faults.KindForm)))))

abbrev pub kind_in : Json → Result SpanKind Fault
kind_in null = Err faults.KindForm
kind_in (boolean _) = Err faults.KindForm
kind_in (number text) = numbered_kind text
kind_in (string text) = named_kind text
kind_in (array _) = Err faults.KindForm
kind_in (object _) = Err faults.KindForm

abbrev pub kind_of : Json → Result SpanKind Fault
kind_of j = or_default kinds.Internal kind_in (given (codes "kind") j)

-- the code of a status by its number; one that is not known is unset
unfoldable pub numbered_code : List ℕ → Result StatusCode Fault
numbered_code text =
    if spells 1 text then Ok status_codes.Ok else
    (if spells 2 text then Ok status_codes.Error else
    (if is_integer text then Ok status_codes.Unset else Err faults.CodeForm))

-- and by its name
unfoldable pub named_code : List ℕ → Result StatusCode Fault
named_code text =
    if bytes_eq text (codes "STATUS_CODE_OK") then Ok status_codes.Ok else
    (if bytes_eq text (codes "STATUS_CODE_ERROR") then Ok status_codes.Error else
    (if bytes_eq text (codes "STATUS_CODE_UNSET") then Ok status_codes.Unset else Err faults.CodeForm))

abbrev pub code_in : Json → Result StatusCode Fault
code_in null = Err faults.CodeForm
code_in (boolean _) = Err faults.CodeForm
code_in (number text) = numbered_code text
code_in (string text) = named_code text
code_in (array _) = Err faults.CodeForm
code_in (object _) = Err faults.CodeForm

abbrev pub code_member : Json → Result StatusCode Fault
code_member j = or_default status_codes.Unset code_in (given (codes "code") j)

-- a status by its code; only an error has a description
abbrev pub status_with : StatusCode → List ℕ → PlainStatus
status_with status_codes.Unset message = unset
status_with status_codes.Ok message = ok
status_with status_codes.Error message = error message

unfoldable pub status_in : Json → Result PlainStatus Fault
status_in j = do
  _ ← object_or faults.StatusType j
  code ← code_member j
  message ← text_of (codes "message") faults.MessageType j
  Ok (status_with code message)

abbrev pub status_of : Json → Result PlainStatus Fault
status_of j = or_default unset status_in (given (codes "status") j)

-- a span as it is shown, and what of its attributes, events and links was left out
pub record PlainReadSpan : Type 0 where
  pub span : PlainShownSpan
  pub left_out : List LeftOut

-- a span of a resource
unfoldable pub span_in : PlainShownResource → Json → Result PlainReadSpan Fault
span_in resource j = do
  _ ← object_or faults.SpanType j
  trace_id ← id_of (codes "traceId") 32 faults.TraceIdMissing faults.TraceIdForm j
  span_id ← id_of (codes "spanId") 16 faults.SpanIdMissing faults.SpanIdForm j
  parent_span_id ← parent_of (codes "parentSpanId") j
  name ← text_of (codes "name") faults.NameType j
  kind ← kind_of j
  start_time ← moment_of (codes "startTimeUnixNano") j
  end_time ← moment_of (codes "endTimeUnixNano") j
  status ← status_of j
  attributes ← attributes_of (lists.SpanAttributes span_id) j
  events ← events_of span_id j
  links ← links_of span_id j
  Ok (record {
    span = record {
      trace_id = trace_id;
      span_id = span_id;
      parent_span_id = parent_span_id;
      name = name;
      service = resource.service;
      resource = resource.attributes;
      kind = kind;
      start_time = start_time;
      end_time = end_time;
      status = status;
      attributes = attributes.kept;
      events = events.kept;
      links = links.kept;
    };
    left_out = (attributes.left_out ++ events.left_out) ++ links.left_out;
  })
