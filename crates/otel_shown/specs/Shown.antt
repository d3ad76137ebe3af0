-- What contracts see of a span as a picture shows it, and which one shows an exported span.
use Rattle.std.specs.Prelude.{ℕ, List, [], ◌∷◌, ◌++◌, map}
use Rattle.std.specs.List.{flat_map}
use Rattle.opentelemetry.specs.Plain.{PlainEvent, PlainKeyValue, PlainLink, PlainStatus}
use Rattle.opentelemetry.specs.ValueText.{value_text}
use Rattle.opentelemetry.specs.declared.trace.span_kind.SpanKind.{SpanKind}
use Rattle.otel_export.specs.PlainSpanData.{PlainSpanData}

-- when something happened within a span, what it is called, and its attributes as one text
pub record PlainShownEvent : Type 0 where
  pub timestamp : ℕ
  pub name : List ℕ
  pub attributes : List ℕ

-- which span a span points to, and the attributes of that relation as one text
pub record PlainShownLink : Type 0 where
  pub trace_id : ℕ
  pub span_id : ℕ
  pub attributes : List ℕ

-- who made spans: the name of a service, empty where nobody says it, and the attributes of its resource as one text
pub record PlainShownResource : Type 0 where
  pub service : List ℕ
  pub attributes : List ℕ

-- nobody says who made them
abbrev pub no_resource : PlainShownResource
no_resource = record { service = []; attributes = [] }

-- what a picture shows of a span; its attributes are one text, and those of its resource, its parent is zero where it
-- has none
pub record PlainShownSpan : Type 0 where
  pub trace_id : ℕ
  pub span_id : ℕ
  pub parent_span_id : ℕ
  pub name : List ℕ
  pub service : List ℕ
  pub resource : List ℕ
  pub kind : SpanKind
  pub start_time : ℕ
  pub end_time : ℕ
  pub status : PlainStatus
  pub attributes : List ℕ
  pub events : List PlainShownEvent
  pub links : List PlainShownLink

-- a line feed, a key, an equals sign and the text of a value
abbrev pub pair_line : List ℕ → List ℕ → List ℕ
pair_line key value = 10 ∷ (key ++ 61 ∷ value)

-- the line of an attribute
abbrev pub attribute_line : PlainKeyValue → List ℕ
attribute_line attribute = pair_line attribute.key (value_text attribute.value)

-- the lines of attributes, in order
abbrev pub attribute_lines : List PlainKeyValue → List ℕ
attribute_lines attributes = flat_map attribute_line attributes

-- an event, without the count of the attributes that it lost
abbrev pub shown_event : PlainEvent → PlainShownEvent
shown_event event = record {
  timestamp = event.timestamp;
  name = event.name;
  attributes = attribute_lines event.attributes;
}

-- a link, by the ids of its span alone
abbrev pub shown_link : PlainLink → PlainShownLink
shown_link link = record {
  trace_id = link.span_context.trace_id;
  span_id = link.span_context.span_id;
  attributes = attribute_lines link.attributes;
}

-- an exported span of a resource
abbrev pub shown_span : PlainShownResource → PlainSpanData → PlainShownSpan
shown_span resource span = record {
  trace_id = span.span_context.trace_id;
  span_id = span.span_context.span_id;
  parent_span_id = span.parent_span_id;
  name = span.name;
  service = resource.service;
  resource = resource.attributes;
  kind = span.span_kind;
  start_time = span.start_time;
  end_time = span.end_time;
  status = span.status;
  attributes = attribute_lines span.attributes;
  events = map shown_event span.events.events;
  links = map shown_link span.links.links;
}
